-- The outcomes of a node are copied.
use Rattle.std.proofs.Common.{◌≡◌, ◌≢◌, ℕ, zero, suc, ◌+◌, ◌-◌, ◌<◌, ◌≤◌, List, [], ◌∷◌, length, drop, refl, sym, ap, subst, ◌∙◌, arith, slice_get, Option, Some, None, Result, Ok, Err, IfOk, OnErr}
use Rattle.std.specs.Prelude.{slice_index_or}
use Rattle.rp_base.specs.declared.memory.NoMemory.{NoMemory}
use Rattle.rp_clients.specs.declared.answers.Answer.TheVariants as answers
use Rattle.rp_events.specs.declared.answers.Ended.{Ended}
use Rattle.rp_events.specs.Nodes.{Node}
use Rattle.rp_events.specs.Worlds.{World, node_of}
use Rattle.rp_switch.specs.declared.terms.Terms.{Terms}
use Rattle.rp_switch.specs.Rules.{IsTrueOf}
use Rattle.rp_switch.specs.Views.{Knowledge}
use Rattle.rp_bench.specs.declared.stations.Station.{Station}
use Rattle.rp_bench.specs.Stations.{AllServe, IsAtWork, Changes, OthersStay, Notes, HasPosted, AreTrue}
use Rattle.rp_bench.proofs.Visited.{Visit, seen_here}
use Rattle.rp_bench.proofs.Working.{SameSight, SamePlay, node_at, but_on, but_visited, seen_noted, serve_on, note_plays, still_idle, still_long, serve_same}

posted_sight : (n : Node) (r : Result (List Ended) NoMemory) (s t : Station) → HasPosted n r s t → SameSight s t
posted_sight n (Ok ends) s t is = (ap (λ (z : Station). z.rounds) is.1, ap (λ (z : Station). z.waited) is.1)
posted_sight n (Err want) s t is = (ap (λ (z : Station). z.rounds) is, ap (λ (z : Station). z.waited) is)

posted_play : (n : Node) (r : Result (List Ended) NoMemory) (s t : Station) → HasPosted n r s t → SamePlay s t
posted_play n (Ok ends) s t is = (ap (λ (z : Station). z.may_play) is.1, ap (λ (z : Station). z.mail) is.1)
posted_play n (Err want) s t is = (ap (λ (z : Station). z.may_play) is, ap (λ (z : Station). z.mail) is)

get_drop : {X : Type 0} (xs : List X) (k i : ℕ) → slice_get (drop k xs) i ≡ slice_get xs (k + i)
get_drop xs zero i = ap (slice_get xs) (omega arith)
get_drop [] (suc k) i = refl
get_drop (x ∷ xs) (suc k) i = let same : suc k + i ≡ suc (k + i) = omega arith in get_drop xs k i ∙ ap (slice_get (x ∷ xs)) (sym same)

get_in : {X : Type 0} (xs : List X) (k : ℕ) (d : X) → k < length xs → slice_get xs k ≡ Some (slice_index_or xs k d)
get_in [] k d low = absurd (omega (arith, low))
get_in (x ∷ xs) zero d low = refl
get_in (x ∷ xs) (suc k) d low = get_in xs k d (omega (arith, low))

-- each of these stands in the node's outcomes
all_true : (t : Terms) (seen : World) (node : ℕ) (n : Node) → node_of seen node ≡ Some n → (ends : List Ended) (from : ℕ)
    → ((i : ℕ) (e : Ended) → slice_get ends i ≡ Some e → slice_get n.outcomes (from + i) ≡ Some e) → AreTrue t seen ends
all_true t seen node n has ends from stand k d low =
    let e = slice_index_or ends k d in
    (refl, (node, n, from + k, has, stand k e (get_in ends k d low)))

pub ends_true : (t : Terms) (seen : World) (node : ℕ) (n : Node) → node_of seen node ≡ Some n → (r : Result (List Ended) NoMemory) (old new : List Station) (place : ℕ)
    → Changes place (HasPosted n r) old new → IfOk r (AreTrue t seen)
ends_true t seen node n has (Ok ends) old new place c =
    let how : HasPosted n (Ok ends) c.0 c.1 = c.4 in
    all_true t seen node n has ends c.0.posted (λ i e is. sym (get_drop n.outcomes c.0.posted i) ∙ ap (λ l. slice_get l i) (sym how.0) ∙ is)
ends_true t seen node n has (Err want) old new place c = tt

pub at_work_posted : (v w : Knowledge) (node : ℕ) (at : World) (n : Node) (r : Result (List Ended) NoMemory) (old mid new : List Station) → Visit v node at n n w
    → Changes (node - 1) (HasPosted n r) old mid → OthersStay (node - 1) old mid → Changes (node - 1) (Notes n) mid new → OthersStay (node - 1) mid new → IsAtWork v old → IsAtWork w new
at_work_posted v w node at n r old mid new s c others noted rest work = record {
  idle = still_idle v w node at n n s;
  size = still_long v w node at n n s work.size;
  seen = seen_noted (node - 1) w.seen n mid new
      (but_on (node - 1) w.seen (node - 1) (HasPosted n r) old mid c others (posted_sight n r) (but_visited v w node at n n s old work.seen))
      (seen_here v w node at n n s) noted rest;
  serve = serve_on w (node - 1) (Notes n) mid new noted rest (note_plays n)
      (serve_on w (node - 1) (HasPosted n r) old mid c others (posted_play n r) (serve_same v w node at n s old work.serve));
}
