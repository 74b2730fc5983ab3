-- What a node waited is through how many of its rounds some attempt was pending there.
use Rattle.std.proofs.Common.{◌≡◌, ℕ, zero, suc, ◌+◌, ◌-◌, ◌<◌, ◌≤◌, Bool, true, false, min, max, ◌⊎◌, inl, inr, ⊎_elim, Option, None, Some, List, [], ◌∷◌, ◌++◌, length, take, refl, sym, ap, subst, ◌∙◌, arith}
use Rattle.std.specs.Prelude.{slice_get, slice_index_or, filter_map, fold}
use Rattle.std.specs.List.{cons_option, reduce}
use Rattle.std.proofs.lemmas.Bool.{cases_eq, cases_lt}
use Rattle.std.proofs.lemmas.Option.{slice_get_within}
use Rattle.rp_base.specs.declared.items.Item.{Item}
use Rattle.rp_request.specs.Applied.{AppliedState}
use Rattle.rp_pending.specs.Refreshes.{first_round}
use Rattle.rp_pending.specs.declared.proposals.Proposal.{Proposal}
use Rattle.rp_events.specs.declared.journals.PastEvent.TheVariants as past
use Rattle.rp_events.specs.declared.node_events.Event.{Event}
use Rattle.rp_events.specs.declared.node_events.Event.TheVariants as events
use Rattle.rp_events.specs.Lawful.{Lawful, AllLawful, IsReached, IsLater}
use Rattle.rp_events.specs.Lists.{StoodAs}
use Rattle.rp_events.specs.Nodes.{Node, Status, Absent, Live, Removed, seat, first_node, first_round_in, longest_wait}
use Rattle.rp_events.specs.NodeEvents.{step, past_of}
use Rattle.rp_events.specs.Replicas.{Replica}
use Rattle.rp_events.specs.Worlds.{World, Scene, Schedule, first_world, node_of, taken_in, happens, run}
use Rattle.rp_journals.specs.Entries.{AllReadBack}
use Rattle.rp_journals.specs.Growth.{Grows, WorldGrows}
use Rattle.rp_journals.proofs.Growing.{Happened, happened, scene_grows, one_node, step_grows, reached_later}
use Rattle.rp_journals.proofs.Lists.{get_end, take_begins, take_whole}
use Rattle.rp_journals.proofs.Reading.{entry_of, step_journal, first_at, reads_back, stands_now}
use Rattle.rp_journals.proofs.Staying.{stood_stays}
use Rattle.rp_journals.proofs.Writing.{now_is, other_is, stood_later, later_scene, first_reached}
use Rattle.rp_race.specs.Owed.{rounds_in, IsRoundAt}
use Rattle.rp_race.specs.Ends.{WasPending}
use Rattle.rp_race.proofs.Ahead.{WasThere, was_there}
use Rattle.rp_race.proofs.Counted.{Counted, all_counted, round_grows, waits_as}

-- an item of a filtered list came from one of the list
kept_from : {X Y : Type 0} (f : X → Option Y) (xs : List X) (k : ℕ) (y : Y) → slice_get (filter_map f xs) k ≡ Some y → (j : ℕ) × (x : X) × (slice_get xs j ≡ Some x) × (f x ≡ Some y)
kept_from f [] k y e = absurd cc
kept_from {X} {Y} f (x ∷ xs) k y e = go (f x) refl e (λ i h. kept_from f xs i y h) k where
  go : (o : Option Y) → f x ≡ o → slice_get (cons_option o (filter_map f xs)) k ≡ Some y → ((i : ℕ) → slice_get (filter_map f xs) i ≡ Some y → (j : ℕ) × (z : X) × (slice_get xs j ≡ Some z) × (f z ≡ Some y))
      → (m : ℕ) → (j : ℕ) × (z : X) × (slice_get (x ∷ xs) j ≡ Some z) × (f z ≡ Some y)
  go None is h more m = let r = more k h in (suc r.0, r.1, r.2, r.3)
  go (Some first) is h more m = at k refl where
    some_is : (a b : Y) → ◌≡◌ {A = Option Y} (Some a) (Some b) → a ≡ b
    some_is a b e' = cc

    at : (i : ℕ) → k ≡ i → (j : ℕ) × (z : X) × (slice_get (x ∷ xs) j ≡ Some z) × (f z ≡ Some y)
    at zero here = (0, x, refl, is ∙ ap (slice_get (first ∷ filter_map f xs)) (sym here) ∙ h)
    at (suc i) here = let r = more i (ap (slice_get (first ∷ filter_map f xs)) (sym here) ∙ h) in (suc r.0, r.1, r.2, r.3)

-- the least of a list is in it
least_in : (xs : List ℕ) (x : ℕ) → (k : ℕ) × (slice_get (x ∷ xs) k ≡ Some (fold min x xs))
least_in [] x = (0, refl)
least_in (y ∷ ys) x = go (least_in ys (min x y)) where
  lesser : (min x y ≡ x) ⊎ (min x y ≡ y)
  lesser = ⊎_elim (λ (h : x < y). inl (omega (arith, h))) (λ (h : y ≤ x). inr (omega (arith, h))) (cases_lt x y)

  go : (k : ℕ) × (slice_get (min x y ∷ ys) k ≡ Some (fold min (min x y) ys)) → (k : ℕ) × (slice_get (x ∷ y ∷ ys) k ≡ Some (fold min (min x y) ys))
  go (zero, e) = ⊎_elim
      (λ (h : min x y ≡ x). (0, ap Some (sym h) ∙ e))
      (λ (h : min x y ≡ y). (1, ap Some (sym h) ∙ e))
      lesser
  go (suc k, e) = (suc (suc k), e)

least_of : (xs : List ℕ) (f : ℕ) → reduce min xs ≡ Some f → (k : ℕ) × (slice_get xs k ≡ Some f)
least_of [] f e = absurd cc
least_of (x ∷ xs) f e = let k = least_in xs x in (k.0, k.1 ∙ e)

-- the longest wait is that of one first round
longest_of : (rounds : ℕ) (firsts : List ℕ) (most : ℕ) → (fold (λ (m : ℕ) (first : ℕ). max m (rounds - first)) most firsts ≡ most)
    ⊎ ((k : ℕ) × (first : ℕ) × (slice_get firsts k ≡ Some first) × (fold (λ (m : ℕ) (f : ℕ). max m (rounds - f)) most firsts ≡ rounds - first))
longest_of rounds [] most = inl refl
longest_of rounds (first ∷ firsts) most = ⊎_elim
    (λ (same : fold (λ (m : ℕ) (f : ℕ). max m (rounds - f)) (max most (rounds - first)) firsts ≡ max most (rounds - first)). ⊎_elim
    (λ (less : most < rounds - first). inr (0, first, refl, let m : max most (rounds - first) ≡ rounds - first = omega (arith, less) in same ∙ m))
    (λ (more : rounds - first ≤ most). inl (let m : max most (rounds - first) ≡ most = omega (arith, more) in same ∙ m))
    (cases_lt most (rounds - first)))
    (λ other. inr (suc other.0, other.1, other.2, other.3))
    (longest_of rounds firsts (max most (rounds - first)))

-- and so of one proposal
record Pending (rounds : ℕ) (n : Node) (wait : ℕ) : Type 0 where
  range : ℕ
  replica : Replica
  live : seat n range ≡ Live replica
  k : ℕ
  proposal : Proposal
  among : slice_get replica.pending k ≡ Some proposal
  first : ℕ
  flushed : proposal.round ≡ Some first
  through : rounds ≡ first + wait

seat_is : (seats : List Status) (range : ℕ) (s : Status) → slice_get seats range ≡ Some s → slice_index_or seats range Absent ≡ s
seat_is [] range s e = absurd cc
seat_is (x ∷ seats) zero s e = some_is x s e where
  some_is : (a b : Status) → ◌≡◌ {A = Option Status} (Some a) (Some b) → a ≡ b
  some_is a b e' = cc
seat_is (x ∷ seats) (suc range) s e = seat_is seats range s e

by_first : (rounds : ℕ) (n : Node) (first : ℕ) → 0 < rounds - first → (range : ℕ) (s : Status) → seat n range ≡ s → first_round_in s ≡ Some first → Pending rounds n (rounds - first)
by_first rounds n first some range Absent is e = absurd cc
by_first rounds n first some range (Removed applied) is e = absurd cc
by_first rounds n first some range (Live r) is e =
    let k = least_of (filter_map (λ (p : Proposal). p.round) r.pending) first e in
    let p = kept_from (λ (p : Proposal). p.round) r.pending k.0 first k.1 in
    record { range = range; replica = r; live = is; k = p.0; proposal = p.1; among = p.2; first = first; flushed = p.3; through = omega (arith, some) }

longest_pending : (rounds : ℕ) (n : Node) → 0 < longest_wait rounds n.seats → Pending rounds n (longest_wait rounds n.seats)
longest_pending rounds n some = ⊎_elim
    (λ (none : longest_wait rounds n.seats ≡ 0). absurd (omega (arith, some, none)))
    (λ one.
    let s = kept_from first_round_in n.seats one.0 one.1 one.2 in
    let is = one.3 in
    subst (Pending rounds n) (sym is) (by_first rounds n one.1 (omega (arith, some, is)) s.0 s.1 (seat_is n.seats s.0 s.1 s.2) s.3))
    (longest_of rounds (filter_map first_round_in n.seats) 0)

-- what was pending was so later
pending_later : (w later : World) → AllReadBack w → WorldGrows w later → (node rounds : ℕ) → WasPending w node rounds → WasPending later node rounds
pending_later w later reads g node rounds h =
    let l = g.each node h.n h.has in
    let within : h.place < length h.n.journal = slice_get_within h.n.journal h.place _ h.ended.here in
    let same : take h.place l.now.journal ≡ take h.place h.n.journal = take_begins h.place h.n.journal l.now.journal l.grows.journal (omega (arith, within)) in
    record {
      n = l.now;
      has = l.has;
      place = h.place;
      sent = h.sent;
      ended = subst (λ k. IsRoundAt l.now.journal (rounds_in k + 1) h.place h.sent) (sym same) (round_grows h.n.journal l.now.journal l.grows.journal _ h.place h.sent h.ended);
      range = h.range;
      replica = h.replica;
      stood = stood_stays w later reads g node h.n h.has h.place (omega (arith, within)) h.range h.replica h.stood;
      k = h.k;
      proposal = h.proposal;
      among = h.among;
      first = h.first;
      flushed = h.flushed;
      through = ap (λ l. rounds_in l + 1) same ∙ h.through;
    }

abbrev AllPending : World → Type 0
AllPending w = (node : ℕ) (n : Node) → node_of w node ≡ Some n → 0 < n.waited → WasPending w node n.waited

-- a round that ends
pending_now : (nodes : ℕ) (w : World) (x : Scene) → IsReached nodes w → (k : Happened w x) → k.event ≡ events.Round → (wait : ℕ) → Pending (k.n.rounds + 1) k.n wait → WasPending (happens w x) x.node wait
pending_now nodes w x reached k round wait p =
    let new : Node = (step k.n k.event (taken_in x.what)).node in
    let reads : AllReadBack w = reads_back nodes w reached in
    let c : Counted k.n = all_counted nodes w reached x.node k.n k.has in
    let counts = c.rounds in
    let there : node_of (happens w x) x.node ≡ Some new = now_is w x k in
    let journal_is : new.journal ≡ k.n.journal ++ entry_of k.n k.event (taken_in x.what) ∷ [] = step_journal k.n k.event (taken_in x.what) in
    let same : take (length k.n.journal) new.journal ≡ k.n.journal =
    take_begins (length k.n.journal) k.n.journal new.journal (step_grows k.n k.event (taken_in x.what)).journal (omega arith) ∙ take_whole k.n.journal in
    let through = p.through in
    record {
      n = new;
      has = there;
      place = length k.n.journal;
      sent = length k.n.sent;
      ended = record {
        answer = (step k.n k.event (taken_in x.what)).answer;
        here = ap (λ l. slice_get l (length k.n.journal)) journal_is ∙ get_end k.n.journal (entry_of k.n k.event (taken_in x.what)) []
            ∙ ap (λ e. Some (record { event = past_of k.n e (taken_in x.what); answer = (step k.n k.event (taken_in x.what)).answer })) round;
        number = refl;
      };
      range = p.range;
      replica = p.replica;
      stood = record {
        n = new;
        has = there;
        stood = ap (λ (z : Node). seat z p.range)
            (stood_later w (happens w x) reads (scene_grows w x) x.node k.n new k.has there (length k.n.journal) (omega arith) ∙ stands_now w k.n (reads x.node k.n k.has)) ∙ p.live;
      };
      k = p.k;
      proposal = p.proposal;
      among = p.among;
      first = p.first;
      flushed = p.flushed;
      through = ap (λ l. rounds_in l + 1) same ∙ let t : rounds_in k.n.journal + 1 ≡ p.first + wait = omega (arith, counts, through) in t;
    }

pending_scene : (nodes : ℕ) (w : World) (x : Scene) → IsReached nodes w → AllPending w → AllPending (happens w x)
pending_scene nodes w x reached all = ⊎_elim
    (λ (same : happens w x ≡ w). subst AllPending (sym same) all)
    (λ (k : Happened w x). λ node now is some. ⊎_elim
    (λ (at : node ≡ x.node).
    let now_new : (step k.n k.event (taken_in x.what)).node ≡ now = one_node (happens w x) x.node _ now (now_is w x k) (subst (λ z. node_of (happens w x) z ≡ Some now) at is) in
    let waited_is : (step k.n k.event (taken_in x.what)).node.waited ≡ now.waited = ap (λ (z : Node). z.waited) now_new in
    subst (λ z. WasPending (happens w x) z now.waited) (sym at)
    (subst (WasPending (happens w x) x.node) waited_is (by_event k (omega (arith, some, waited_is)))))
    (λ (ne : node ≡ x.node → ⊥).
    old node now (sym (other_is w x k node ne) ∙ is) some)
    (cases_eq node x.node))
    (happened w x)
  where
    reads : AllReadBack w
    reads = reads_back nodes w reached

    old : (node : ℕ) (n : Node) → node_of w node ≡ Some n → 0 < n.waited → WasPending (happens w x) node n.waited
    old node n has some = pending_later w (happens w x) reads (scene_grows w x) node n.waited (all node n has some)

    by_event : (k : Happened w x) → 0 < (step k.n k.event (taken_in x.what)).node.waited → WasPending (happens w x) x.node (step k.n k.event (taken_in x.what)).node.waited
    by_event k some = ⊎_elim
        (λ (same : (step k.n k.event (taken_in x.what)).node.waited ≡ k.n.waited).
        subst (WasPending (happens w x) x.node) (sym same) (old x.node k.n k.has (omega (arith, some, same))))
        (λ round.
        let longest = round.1 in
        subst (WasPending (happens w x) x.node) (sym longest)
        (pending_now nodes w x reached k round.0 (longest_wait (k.n.rounds + 1) k.n.seats) (longest_pending (k.n.rounds + 1) k.n (omega (arith, some, longest)))))
        (waits_as k.n k.event (taken_in x.what))

pending_run : (nodes : ℕ) (xs : Schedule) (w : World) → IsReached nodes w → AllLawful w xs → AllPending w → AllPending (run w xs)
pending_run nodes [] w reached lawful all = all
pending_run nodes (x ∷ xs) w reached lawful all =
    pending_run nodes xs (happens w x) (reached_later nodes w (happens w x) reached (later_scene w x lawful.0)) lawful.1 (pending_scene nodes w x reached all)

pub was_pending : (nodes : ℕ) (w : World) → IsReached nodes w → (node : ℕ) (n : Node) → node_of w node ≡ Some n → 0 < n.waited → WasPending w node n.waited
was_pending nodes w r = subst AllPending r.reached (pending_run nodes r.schedule (first_world nodes) (first_reached nodes w r) r.lawful first) where
  first : AllPending (first_world nodes)
  first node n has some = absurd (let none : n.waited ≡ 0 = ap (λ (z : Node). z.waited) (first_at nodes node n has) in omega (arith, some, none))
