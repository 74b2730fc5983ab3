-- A lawful scene leaves the nodes bound to the ranges, which have gone on.
use Rattle.std.proofs.Common.{◌≡◌, ℕ, zero, suc, ◌<◌, Bool, true, false, ◌⊎◌, inl, inr, Some, List, [], ◌∷◌, ◌++◌, length, refl, sym, ap, subst, ◌∙◌, arith}
use Rattle.std.specs.Prelude.{IsTrue}
use Rattle.std.proofs.lemmas.Option.{slice_get_within}
use Rattle.rp_base.specs.declared.ids.CmdId.{CmdId}
use Rattle.rp_request.specs.Applied.{AppliedState}
use Rattle.rp_raftsafe.specs.World as raft
use Rattle.rp_raftsafe.specs.World.{IsRange}
use Rattle.rp_raftsafe.specs.Safety.{OneList}
use Rattle.rp_rangesafe.specs.World as machine
use Rattle.rp_rangesafe.specs.World.{Event, AllLawful, begin, run}
use Rattle.rp_rangesafe.specs.Ranges.{Ranges, Nobody, AreReached, AreLater}
use Rattle.rp_rangesafe.proofs.Runs.{run_start, run_further}
use Rattle.rp_rangesafe.proofs.Holders.{range_holder}
use Rattle.rp_events.specs.Nodes.{Node}
use Rattle.rp_events.specs.Worlds.{World, Scene, Happening, Admit, Ask, Transfer, Collect, Flush, Tick, Deliver, Apply, Cut, Remove, Peek, Restart, Round, node_of, happens}
use Rattle.rp_events.specs.Lawful.{is_allowed, Lawful}
use Rattle.rp_seats.specs.Scenes.{raft_events}
use Rattle.rp_seats.specs.Standing.{RangeOk, IsShut, IsOwned, Bound}
use Rattle.rp_seats.specs.Steps.{AdmitsNone}
use Rattle.rp_seats.proofs.Opens.{opens}
use Rattle.rp_seats.proofs.Shaped.{shaped_scene}
use Rattle.rp_turns.specs.Turning.{IsNew, admission, AsksFor, SceneTurned}
use Rattle.rp_bound.specs.Bounds.{BoundNext}
use Rattle.rp_bound.proofs.Onward.{Upto, onward_further, reached_further, each_upto}
use Rattle.rp_bound.proofs.Below.{opened_below}
use Rattle.rp_bound.proofs.Admissions.{MayHappen, may_happen, begins_lawful, scene_new}
use Rattle.rp_bound.proofs.Led.{Led, BeginsIn, asks_cases, led}
use Rattle.rp_bound.proofs.Owners.{still_there, owned_still, owned_new}

-- the two parts of a lawful list
lawful_parts : (h : machine.World) (xs ys : List Event) → AllLawful h (xs ++ ys) → AllLawful h xs × AllLawful (run h xs) ys
lawful_parts h [] ys l = (tt, l)
lawful_parts h (x ∷ xs) ys l = let k = lawful_parts (machine.happens h x) xs ys l.1 in ((l.0, k.0), k.1)

not_both : (b : Bool) → b ≡ true → b ≡ false → ⊥
not_both b e f = cc

-- a world with a node has some
some_nodes : (w : World) (node : ℕ) (n : Node) → node_of w node ≡ Some n → 0 < length w
some_nodes w zero n has = absurd cc
some_nodes w (suc place) n has = let l = slice_get_within w place n has in omega (arith, l)

-- a range that has just begun, at nodes that have nothing of it
pub begun_ok : (lists : OneList AppliedState) (range : ℕ) (seen : List raft.Event) (w : World) (h : machine.World) (s : AppliedState) → h ≡ begin s → 0 < h.start.lease.holder → 0 < length w
    → IsShut range seen w → RangeOk lists (length w) range h.start seen w h
begun_ok lists range seen w h s is holder some shut =
    subst (λ (z : machine.World). RangeOk lists (length w) range z.start seen w z) (sym is)
    (subst (λ z. RangeOk lists (length w) range s z w (begin s)) (sym shut.unseen)
    (opens lists range s seen w shut (record { some_nodes = some; some_holder = subst (λ (z : machine.World). 0 < z.start.lease.holder) is holder })))

module _ (lists : OneList AppliedState) (w : World) (m : Ranges) (seen : ℕ → List raft.Event) (bound : Bound lists w m seen) where
  begins_in : (node : ℕ) (what : Happening) → IsTrue (is_allowed w node what) → BeginsIn m what
  begins_in node (Admit range id request) may = begins_lawful lists w m seen bound id request may
  begins_in node (Ask range) may = tt
  begins_in node (Transfer range to) may = tt
  begins_in node (Collect range taken) may = tt
  begins_in node (Flush range) may = tt
  begins_in node Tick may = tt
  begins_in node (Deliver from number) may = tt
  begins_in node (Apply range) may = tt
  begins_in node (Cut range) may = tt
  begins_in node (Remove range) may = tt
  begins_in node (Peek range key) may = tt
  begins_in node Restart may = tt
  begins_in node Round may = tt

  asked_new : (id : CmdId) (what : Happening) → IsNew m what → AsksFor id what → m.owner id ≡ Nobody
  asked_new id (Admit range other request) new same = subst (λ z. m.owner z ≡ Nobody) same new
  asked_new id (Ask range) new k = absurd k
  asked_new id (Transfer range to) new k = absurd k
  asked_new id (Collect range taken) new k = absurd k
  asked_new id (Flush range) new k = absurd k
  asked_new id Tick new k = absurd k
  asked_new id (Deliver from number) new k = absurd k
  asked_new id (Apply range) new k = absurd k
  asked_new id (Cut range) new k = absurd k
  asked_new id (Remove range) new k = absurd k
  asked_new id (Peek range key) new k = absurd k
  asked_new id Restart new k = absurd k
  asked_new id Round new k = absurd k

  module _ (x : Scene) (lawful : Lawful w x) (t : SceneTurned lists w m seen x) where
    abbrev after : World
    after = happens w x

    abbrev seen_then : ℕ → List raft.Event
    seen_then range = seen range ++ raft_events range w x

    abbrev first_of : ℕ → List Event
    first_of q = admission t.granted x.node q x.what

    -- what a range does behind what it admits
    abbrev IsRest : ℕ → List Event → Type 0
    IsRest q es = AllLawful (m.range q) (first_of q ++ es) × AdmitsNone es
        × RangeOk lists (length after) q (m.range q).start (seen_then q) after (run (m.range q) (first_of q ++ es))

    rest_by : (q : ℕ) (b : Bool) → m.opened q ≡ b → (es : List Event) × (m.opened q ≡ true → IsRest q es)
    rest_by q true e = let k = t.turns q e in (k.rest, λ o. (k.lawful, k.quiet, k.range_ok))
    rest_by q false e = ([], λ o. absurd (not_both (m.opened q) o e))

    abbrev rest_of : ℕ → List Event
    rest_of q = (rest_by q (m.opened q) refl).0

    is_rest : (q : ℕ) → m.opened q ≡ true → IsRest q (rest_of q)
    is_rest q = (rest_by q (m.opened q) refl).1

    may : MayHappen w x.node x.what
    may = may_happen w x lawful.lawful

    front : (v : Ranges) × Led m after x.node t.granted x.what v
    front = led m after x.node t.granted x.what (begins_in x.node x.what may.allowed) t.answered
        (λ q o. (lawful_parts (m.range q) (first_of q) (rest_of q) (is_rest q o).0).0)

    abbrev v : Ranges
    v = front.0

    was_there : (q : ℕ) → v.opened q ≡ true → m.opened q ≡ true
    was_there q o = sym (front.1.opened q) ∙ o

    back : (u : Ranges) × Upto v rest_of 8 u
    back = each_upto v rest_of
        (λ q o. subst (λ z. AllLawful z (rest_of q)) (sym (front.1.range q)) (lawful_parts (m.range q) (first_of q) (rest_of q) (is_rest q (was_there q o)).0).1)
        (λ q o. (is_rest q (was_there q o)).1) 8

    abbrev u : Ranges
    u = back.0

    onward : AreLater m u
    onward = onward_further m v u front.1.onward back.1.onward

    reached : AreReached u
    reached = reached_further m u bound.reached onward

    range_is : (q : ℕ) → m.opened q ≡ true → u.range q ≡ run (m.range q) (first_of q ++ rest_of q)
    range_is q o =
        back.1.done q (opened_below m bound.reached q o) (front.1.opened q ∙ o)
        ∙ ap (λ z. run z (rest_of q)) (front.1.range q)
        ∙ sym (run_further (m.range q) (first_of q) (rest_of q))

    abbrev Stands : ℕ → machine.World → Type 0
    Stands q h = RangeOk lists (length after) q h.start (seen_then q) after h

    old_range : (q : ℕ) → m.opened q ≡ true → Stands q (u.range q)
    old_range q o = subst (Stands q) (sym (range_is q o))
        (subst (λ s. RangeOk lists (length after) q s (seen_then q) after (run (m.range q) (first_of q ++ rest_of q))) (sym (run_start (m.range q) (first_of q ++ rest_of q))) (is_rest q o).2)

    new_range : (q : ℕ) → m.opened q ≡ false → u.opened q ≡ true → Stands q (u.range q)
    new_range q bare o =
        let k = back.1.shut q (front.1.opened q ∙ bare) o in
        let s = still_there w x x.node may.n may.has in
        begun_ok lists q (seen_then q) after (u.range q) k.0 k.1 (range_holder u reached q o 0) (some_nodes after x.node s.n s.has) (t.shut q bare)

    each_range : (q : ℕ) → u.opened q ≡ true → (b : Bool) → m.opened q ≡ b → Stands q (u.range q)
    each_range q o true e = old_range q e
    each_range q o false e = new_range q e o

    still_shut : (q : ℕ) → u.opened q ≡ false → (b : Bool) → m.opened q ≡ b → IsShut q (seen_then q) after
    still_shut q bare true e = absurd (not_both (u.opened q) (back.1.opened q (front.1.opened q ∙ e)) bare)
    still_shut q bare false e = t.shut q e

    each_owned : (id : CmdId) → IsOwned u after id (u.owner id)
    each_owned id = go (asks_cases id x.what) where
      go : AsksFor id x.what ⊎ (AsksFor id x.what → ⊥) → IsOwned u after id (u.owner id)
      go (inl asks) = owned_new lists w m seen bound x t u onward id (asked_new id x.what (scene_new lists w m seen bound x.node x.what may.allowed) asks) may.n may.has
          v (reached_further m v bound.reached front.1.onward) back.1.onward (back.1.owner id) t.granted (front.1.settled id asks)
      go (inr other) = subst (IsOwned u after id) (sym (back.1.owner id ∙ front.1.others id other)) (owned_still lists w m seen bound x t u onward id other (m.owner id) (bound.owned id))

    pub bound_next : BoundNext lists w m seen x
    bound_next = record {
      ranges = u;
      onward = onward;
      bound = record {
        reached = reached;
        shaped = shaped_scene w bound.shaped x;
        ranges = λ q o. each_range q o (m.opened q) refl;
        shut = λ q o. still_shut q o (m.opened q) refl;
        owned = each_owned;
      };
    }
