-- No attempt of a node was pending through more of its rounds than the node waited.
use Rattle.std.proofs.Common.{◌≡◌, ℕ, zero, suc, ◌+◌, ◌-◌, ◌≤◌, min, max, Option, None, Some, List, [], ◌∷◌, ◌++◌, length, take, refl, sym, ap, ◌∙◌, arith}
use Rattle.std.specs.Prelude.{slice_get, slice_index_or, filter_map, fold}
use Rattle.std.specs.List.{cons_option, reduce}
use Rattle.std.specs.Option.{option_map_or}
use Rattle.std.proofs.lemmas.List.{length_push}
use Rattle.rp_base.specs.declared.items.Item.{Item}
use Rattle.rp_request.specs.Applied.{AppliedState}
use Rattle.rp_pending.specs.declared.proposals.Proposal.{Proposal}
use Rattle.rp_events.specs.declared.journals.JournalEntry.{JournalEntry}
use Rattle.rp_events.specs.declared.journals.PastEvent.TheVariants as past
use Rattle.rp_events.specs.declared.node_events.Event.{Event}
use Rattle.rp_events.specs.declared.node_events.Event.TheVariants as events
use Rattle.rp_events.specs.Lawful.{IsReached}
use Rattle.rp_events.specs.Nodes.{Node, Status, Absent, Live, seat, first_round_in, longest_wait}
use Rattle.rp_events.specs.NodeEvents.{step, past_of}
use Rattle.rp_events.specs.Replicas.{Replica}
use Rattle.rp_events.specs.Worlds.{World, Happening, node_of, event_of, taken_in, happens, happens_at, after_step}
use Rattle.rp_journals.specs.Entries.{WasWritten, at_node}
use Rattle.rp_journals.proofs.Growing.{step_grows, with_same}
use Rattle.rp_journals.proofs.Lists.{take_begins, take_whole}
use Rattle.rp_journals.proofs.Reading.{entry_of, step_journal}
use Rattle.rp_journals.proofs.Writing.{written}
use Rattle.rp_race.specs.Owed.{rounds_in}
use Rattle.rp_race.specs.Ends.{WasPending}
use Rattle.rp_race.proofs.Counted.{all_counted}
use Rattle.rp_race.proofs.Waited.{later_not_less}

-- the least of a list is no more than any of it
least_within : (xs : List ℕ) (x : ℕ) → fold min x xs ≤ x
least_within [] x = omega arith
least_within (y ∷ xs) x = let more = least_within xs (min x y) in omega (arith, more)

least_at : (xs : List ℕ) (x : ℕ) (k y : ℕ) → slice_get xs k ≡ Some y → fold min x xs ≤ y
least_at [] x k y e = absurd cc
least_at (z ∷ xs) x zero y e = let is : z ≡ y = some_is z y e in let more = least_within xs (min x z) in omega (arith, more, is) where
  some_is : (a b : ℕ) → ◌≡◌ {A = Option ℕ} (Some a) (Some b) → a ≡ b
  some_is a b e' = cc
least_at (z ∷ xs) x (suc k) y e = least_at xs (min x z) k y e

least_of : (xs : List ℕ) (k y : ℕ) → slice_get xs k ≡ Some y → (f : ℕ) × (reduce min xs ≡ Some f) × (f ≤ y)
least_of [] k y e = absurd cc
least_of (x ∷ xs) zero y e = (fold min x xs, refl, let is : x ≡ y = some_is x y e in let more = least_within xs x in omega (arith, more, is)) where
  some_is : (a b : ℕ) → ◌≡◌ {A = Option ℕ} (Some a) (Some b) → a ≡ b
  some_is a b e' = cc
least_of (x ∷ xs) (suc k) y e = (fold min x xs, refl, least_at xs x k y e)

-- what a filter gives of an item stands in what it gives
kept_at : {X Y : Type 0} (f : X → Option Y) (xs : List X) (k : ℕ) (x : X) (y : Y) → slice_get xs k ≡ Some x → f x ≡ Some y → (j : ℕ) × (slice_get (filter_map f xs) j ≡ Some y)
kept_at f [] k x y e is = absurd cc
kept_at {X} {Y} f (z ∷ xs) zero x y e is = (0, ap (λ o. slice_get (cons_option o (filter_map f xs)) 0) (ap f (some_is z x e) ∙ is)) where
  some_is : (a b : X) → ◌≡◌ {A = Option X} (Some a) (Some b) → a ≡ b
  some_is a b e' = cc
kept_at {X} {Y} f (z ∷ xs) (suc k) x y e is = go (f z) (kept_at f xs k x y e is) where
  go : (o : Option Y) → (j : ℕ) × (slice_get (filter_map f xs) j ≡ Some y) → (j : ℕ) × (slice_get (cons_option o (filter_map f xs)) j ≡ Some y)
  go None more = more
  go (Some first) more = (suc more.0, more.1)

-- a proposal of a replica waits no longer than the longest
most_within : (rounds : ℕ) (firsts : List ℕ) (most : ℕ) → most ≤ fold (λ (m : ℕ) (first : ℕ). max m (rounds - first)) most firsts
most_within rounds [] most = omega arith
most_within rounds (first ∷ firsts) most = let more = most_within rounds firsts (max most (rounds - first)) in omega (arith, more)

most_at : (rounds : ℕ) (firsts : List ℕ) (most k first : ℕ) → slice_get firsts k ≡ Some first → rounds - first ≤ fold (λ (m : ℕ) (f : ℕ). max m (rounds - f)) most firsts
most_at rounds [] most k first e = absurd cc
most_at rounds (z ∷ firsts) most zero first e =
    let is : z ≡ first = some_is z first e in
    let more = most_within rounds firsts (max most (rounds - z)) in
    omega (arith, more, is)
  where
    some_is : (a b : ℕ) → ◌≡◌ {A = Option ℕ} (Some a) (Some b) → a ≡ b
    some_is a b e' = cc
most_at rounds (z ∷ firsts) most (suc k) first e = most_at rounds firsts (max most (rounds - z)) k first e

seat_at : (seats : List Status) (range : ℕ) (r : Replica) → slice_index_or seats range Absent ≡ Live r → slice_get seats range ≡ Some (Live r)
seat_at [] range r e = absurd cc
seat_at (x ∷ seats) zero r e = ap Some e
seat_at (x ∷ seats) (suc range) r e = seat_at seats range r e

waits_within : (n : Node) (rounds range : ℕ) (r : Replica) (k : ℕ) (p : Proposal) (first : ℕ) → seat n range ≡ Live r → slice_get r.pending k ≡ Some p → p.round ≡ Some first
    → rounds - first ≤ longest_wait rounds n.seats
waits_within n rounds range r k p first live among flushed =
    let at = kept_at (λ (p : Proposal). p.round) r.pending k p first among flushed in
    let least = least_of (filter_map (λ (p : Proposal). p.round) r.pending) at.0 first at.1 in
    let below = least.2 in
    let there = kept_at first_round_in n.seats range (Live r) least.0 (seat_at n.seats range r live) least.1 in
    let most = most_at rounds (filter_map first_round_in n.seats) 0 there.0 least.0 there.1 in
    omega (arith, below, most)

-- the event of a round
round_is : (n : Node) (e : Event AppliedState) (taken : List Item) (sent : ℕ) → past_of n e taken ≡ past.Round sent → e ≡ events.Round
round_is n events.Round taken sent h = refl
round_is n e taken sent h = absurd cc

waits_after : (n : Node) (taken : List Item) → longest_wait (n.rounds + 1) n.seats ≤ (step n events.Round taken).node.waited
waits_after n taken = omega arith

-- the node after the event of an entry
there_after : (before : World) (node : ℕ) (what : Happening) (n : Node) (e : Event AppliedState) → node_of before node ≡ Some n → event_of before what ≡ Some e
    → node_of (happens before (at_node node what)) node ≡ Some (step n e (taken_in what)).node
there_after before node what n e has came =
    ap (λ o. node_of (option_map_or (happens_at before (at_node node what)) o before) node) has
    ∙ ap (λ o. node_of (option_map_or (after_step before node n (taken_in what)) o before) node) came
    ∙ with_same before node n (step n e (taken_in what)).node has

pub not_longer : (nodes : ℕ) (w : World) → IsReached nodes w → (node : ℕ) (n : Node) → node_of w node ≡ Some n → (rounds : ℕ) → WasPending w node rounds → rounds ≤ n.waited
not_longer nodes w reached node n has rounds p =
    let entry : JournalEntry = record { event = past.Round p.sent; answer = p.ended.answer } in
    let ww : WasWritten nodes w node p.place entry = written nodes w reached node p.place entry (record { n = p.n; has = p.has; here = p.ended.here }) in
    let round : ww.event ≡ events.Round = round_is ww.n ww.event (taken_in ww.what) p.sent (sym (ap (λ (e : JournalEntry). e.event) ww.entry)) in
    let new : Node = (step ww.n ww.event (taken_in ww.what)).node in
    let grows = ww.grown p.n p.has in
    let at = ww.at in
    let journal_is : new.journal ≡ ww.n.journal ++ entry_of ww.n ww.event (taken_in ww.what) ∷ [] = step_journal ww.n ww.event (taken_in ww.what) in
    let front : take p.place p.n.journal ≡ ww.n.journal =
    take_begins p.place new.journal p.n.journal grows.journal (within ww at journal_is)
    ∙ take_begins p.place ww.n.journal new.journal (step_grows ww.n ww.event (taken_in ww.what)).journal (omega (arith, at))
    ∙ ap (λ k. take k ww.n.journal) (sym at) ∙ take_whole ww.n.journal in
    let counted : ww.n.rounds ≡ rounds_in ww.n.journal = (all_counted nodes ww.before ww.reached node ww.n ww.has).rounds in
    let number : rounds_in (take p.place p.n.journal) ≡ rounds_in ww.n.journal = ap rounds_in front in
    let stood : seat ww.n p.range ≡ Live p.replica = ap (λ (k : Node). seat k p.range) (sym (ww.stood p.stood.n p.stood.has)) ∙ p.stood.stood in
    let waits = waits_within ww.n (ww.n.rounds + 1) p.range p.replica p.k p.proposal p.first stood p.among p.flushed in
    let after : (step ww.n events.Round (taken_in ww.what)).node.waited ≡ new.waited = ap (λ e. (step ww.n e (taken_in ww.what)).node.waited) (sym round) in
    let most = waits_after ww.n (taken_in ww.what) in
    let later = (later_not_less (happens ww.before (at_node node ww.what)) w ww.later node new n (there_after ww.before node ww.what ww.n ww.event ww.has ww.came) has).1 in
    let through = p.through in
    omega (arith, waits, after, most, later, through, number, counted)
  where
    within : (ww : WasWritten nodes w node p.place (record { event = past.Round p.sent; answer = p.ended.answer })) → length ww.n.journal ≡ p.place
        → (step ww.n ww.event (taken_in ww.what)).node.journal ≡ ww.n.journal ++ entry_of ww.n ww.event (taken_in ww.what) ∷ []
        → p.place ≤ length (step ww.n ww.event (taken_in ww.what)).node.journal
    within ww at is =
        let l : length (step ww.n ww.event (taken_in ww.what)).node.journal ≡ length (ww.n.journal ++ entry_of ww.n ww.event (taken_in ww.what) ∷ []) = ap (λ xs. length xs) is in
        let more = length_push ww.n.journal (entry_of ww.n ww.event (taken_in ww.what)) in
        omega (arith, at, l, more)
