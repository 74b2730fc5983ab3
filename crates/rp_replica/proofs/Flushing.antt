-- An event of Raft with payloads behind it, as it is planned.
use Rattle.std.proofs.Common.{◌≡◌, ◌≤◌, ◌<◌, ◌+◌, ◌^◌, length, ℕ, List, [], ◌∷◌, ◌++◌, map, Option, None, Some, refl, sym, ap, subst, ◌∙◌, arith}
use Rattle.std.proofs.lemmas.List.{map-append}
use Rattle.std.specs.Prelude.{filter_map}
use Rattle.std.specs.List.{IsDistinct}
use Rattle.rp_base.specs.Ids.{same_id}
use Rattle.rp_base.specs.declared.ids.CmdId.{CmdId}
use Rattle.rp_base.specs.declared.leases.LeaseAsk.{LeaseAsk}
use Rattle.rp_codec.specs.Spelling.{spelling}
use Rattle.rp_raft.specs.Plans.{IsMadeIn, done_by, taken_in, sends_of}
use Rattle.rp_raft.specs.Plans as rafts
use Rattle.rp_raftlog.specs.LogState.{last_index}
use Rattle.rp_raftstep.specs.Conditions.{CanRise}
use Rattle.rp_raftstep.specs.RaftState.{RaftState}
use Rattle.rp_raftstep.specs.Step.{Draft, then_proposed, step_then}
use Rattle.rp_raftstep.specs.Step as steps
use Rattle.rp_raftstep.specs.declared.events.RaftEvent.TheVariants as events
use Rattle.rp_raftstep.specs.declared.messages.Message.{Message}
use Rattle.rp_flush.specs.declared.assigns.Assigned.{Assigned}
use Rattle.rp_events.specs.Flushes.{assigning, emptied, flush_moves, flushed}
use Rattle.rp_request.specs.Applied.{AppliedState}
use Rattle.rp_request.specs.declared.commands.Payload.TheVariants as payloads
use Rattle.rp_pending.specs.declared.proposals.Proposal.{Proposal}
use Rattle.rp_events.specs.declared.answers.Ended.{Ended}
use Rattle.rp_events.specs.declared.answers.EventAnswer.TheVariants as answers
use Rattle.rp_events.specs.declared.moves.Move.{Move}
use Rattle.rp_events.specs.Moves.{moved_all, payloads_of, hands_over, hands_to_raft}
use Rattle.rp_events.specs.Refreshes.{with_taken}
use Rattle.rp_events.specs.Replicas.{Replica, Told, lease_of, untold}
use Rattle.rp_events.specs.Allows.{MayFlush}
use Rattle.rp_replica.specs.Handing.{asks_spelled, handed_by, moves_spelled, payloads_by, items_of, told_by}
use Rattle.rp_replica.specs.Plans.{Left, EndsOvertaken, IsPlan, left_of, opened, planned}
use Rattle.rp_replica.specs.declared.plans.HandOver.{HandOver}
use Rattle.rp_replica.specs.declared.plans.ReplicaPlan.TheVariants.{HandsOver}
use Rattle.rp_replica.proofs.Assigning.{few_payloads, flush_apart, flush_ids, flush_none, flush_stand}
use Rattle.rp_replica.proofs.Handing.{AllStand, AreApart, moves_hand, moves_tell, write_at}
use Rattle.rp_replica.proofs.Moving.{at_raft, begun_raft, moves_raft, same_begun}

-- the bytes of asks and moves are those of the payloads that the definition names
map_twice : (asks : List LeaseAsk) → asks_spelled asks ≡ map spelling (map payloads.Lease asks)
map_twice [] = refl
map_twice (ask ∷ asks) = ap (λ bs. spelling (payloads.Lease ask) ∷ bs) (map_twice asks)

pub bytes_are : (asks : List LeaseAsk) (ps after : List Proposal) (moves : List Move) (ids : List CmdId)
    → filter_map (write_at after) ids ≡ payloads_by ps moves
    → asks_spelled asks ++ moves_spelled ps moves ≡ map spelling (payloads_of asks after ids)
bytes_are asks ps after moves ids e =
    ap (λ bs. bs ++ moves_spelled ps moves) (map_twice asks)
    ∙ ap (λ l. map spelling (map payloads.Lease asks) ++ map spelling l) (sym e)
    ∙ sym (map-append spelling (map payloads.Lease asks) (filter_map (write_at after) ids))

-- the plan does what the definition says
abbrev left_as : (t : Told) (done : steps.Done AppliedState) → Left
left_as t done = record {
  replica = record t.replica { raft = done.state };
  answer = answers.Done;
  messages = done.out.messages;
  outcomes = t.ended;
}

pub hands_does : (r : Replica) (h : HandOver) (draft : Draft AppliedState) (bytes : List (List ℕ)) (t : Told)
    → done_by r.raft h.raft ≡ step_then r.applied.index r.applied.state draft bytes
    → with_taken (opened r h.last) (taken_in h.raft) ≡ t
    → h.outcomes ≡ (moved_all h.ticks h.round t h.moves).ended
    → planned r (HandsOver h) ≡ left_of (hands_over r draft (moved_all h.ticks h.round t h.moves) bytes)
hands_does r h draft bytes t does begins ends =
    ap (λ (z : Told). record { replica = (moved_all h.ticks h.round z h.moves).replica; answer = answers.Done; messages = sends_of h.raft; outcomes = h.outcomes })
    (begun_raft (done_by r.raft h.raft).state r h.last (taken_in h.raft) ∙ ap (at_raft (done_by r.raft h.raft).state) begins)
    ∙ ap (λ (z : Told). record { replica = z.replica; answer = answers.Done; messages = sends_of h.raft; outcomes = h.outcomes })
    (moves_raft h.ticks h.round (done_by r.raft h.raft).state h.moves t)
    ∙ ap (λ (xs : List Ended). record {
      replica = record (moved_all h.ticks h.round t h.moves).replica { raft = (done_by r.raft h.raft).state };
      answer = answers.Done;
      messages = sends_of h.raft;
      outcomes = xs;
    }) ends
    ∙ ap (left_as (moved_all h.ticks h.round t h.moves)) does

pub hands_plan : (r : Replica) (h : HandOver) (draft : Draft AppliedState) (t : Told) (asks : List LeaseAsk) (ids : List CmdId) (bytes : List (List ℕ))
    → IsMadeIn r.raft h.raft
    → rafts.Makes r.raft h.raft (then_proposed draft bytes) (step_then r.applied.index r.applied.state draft bytes)
    → bytes ≡ map spelling (payloads_of asks (moved_all h.ticks h.round t h.moves).replica.pending ids)
    → with_taken (opened r h.last) (taken_in h.raft) ≡ t
    → h.outcomes ≡ (moved_all h.ticks h.round t h.moves).ended
    → EndsOvertaken r.pending (taken_in h.raft) h.outcomes
    → items_of h.moves ≤ h.back
    → IsPlan r (Some draft) (HandsOver h) (hands_to_raft r draft (moved_all h.ticks h.round t h.moves) asks ids)
hands_plan r h draft t asks ids bytes made makes spelled begins ends overtaken back =
    subst (λ bs. IsPlan r (Some draft) (HandsOver h) (hands_over r draft (moved_all h.ticks h.round t h.moves) bs)) spelled
    (record {
      makes = record {
        does = hands_does r h draft bytes t makes.does begins ends;
        fits = record { raft = made; overtaken = overtaken; back = back };
      };
      right = refl;
      hands = makes;
    })

-- what committing leaves
pub handed_over : (r : Replica) (h : HandOver) (s : RaftState) (messages : List (ℕ × Message AppliedState)) (taken : Option (ℕ × AppliedState))
    (o x z : Replica) (ms : List Move)
    → ◌≡◌ {A = steps.Done AppliedState} (record { state = s; out = record { messages = messages; taken = taken } }) (done_by r.raft h.raft)
    → o ≡ opened (record r { raft = s }) h.last
    → x ≡ (with_taken o taken).replica
    → ms ≡ h.moves
    → z ≡ (moved_all h.ticks h.round (untold x) ms).replica
    → ◌≡◌ {A = Left} (record { replica = z; answer = answers.Done; messages = messages; outcomes = h.outcomes }) (planned r (HandsOver h))
handed_over r h s messages taken o x z ms does opens takes same moves =
    ap (λ (y : Replica). record { replica = y; answer = answers.Done; messages = messages; outcomes = h.outcomes })
    (moves
    ∙ ap (λ l. (moved_all h.ticks h.round (untold x) l).replica) same
    ∙ ap (λ y. (moved_all h.ticks h.round (untold y) h.moves).replica) takes
    ∙ same_begun h.ticks h.round h.moves (with_taken o taken)
    ∙ ap (λ y. (moved_all h.ticks h.round (with_taken y taken) h.moves).replica) opens)
    ∙ ap (λ (d : steps.Done AppliedState). record {
      replica = (moved_all h.ticks h.round (with_taken (opened (record r { raft = d.state }) h.last) d.out.taken) h.moves).replica;
      answer = answers.Done;
      messages = d.out.messages;
      outcomes = h.outcomes;
    }) does

-- a flush, as it is planned
pub flush_plan : (r : Replica) (h : HandOver) (bytes : List (List ℕ))
    → IsDistinct same_id (map (λ (p : Proposal). p.id) r.pending)
    → IsMadeIn r.raft h.raft
    → rafts.Makes r.raft h.raft (steps.propose r.raft bytes) (steps.step r.applied.index r.applied.state r.raft (events.Propose bytes))
    → h.moves ≡ flush_moves (assigning r)
    → bytes ≡ asks_spelled (assigning r).leases ++ moves_spelled r.pending h.moves
    → h.outcomes ≡ filter_map (told_by (lease_of r)) h.moves
    → h.last ≡ Some (assigning r).last
    → IsPlan r (Some (steps.quiet r.raft)) (HandsOver h) (flushed r h.ticks h.round)
flush_plan r h bytes distinct made makes moves spelled outcomes last =
    let a : Assigned = assigning r in
    let t : Told = untold (emptied r a) in
    let none : taken_in h.raft ≡ None = ap (λ (d : Draft AppliedState). d.taken) makes.drafts in
    let apart : AreApart h.moves = subst AreApart (sym moves) (flush_apart r.inbox r.pending (lease_of r).seq r.applied.state.lai r.assigned) in
    let stand : AllStand r.applied.state.lai r.pending h.moves =
    subst (AllStand r.applied.state.lai r.pending) (sym moves) (flush_stand r.inbox r.pending (lease_of r).seq r.applied.state.lai r.assigned r.applied.state.lai distinct) in
    let handed : filter_map (write_at (moved_all h.ticks h.round t h.moves).replica.pending) (map (λ write. write.0) a.writes) ≡ payloads_by r.pending h.moves =
    ap (filter_map (write_at (moved_all h.ticks h.round t h.moves).replica.pending)) (sym (ap (filter_map handed_by) moves ∙ flush_ids a))
    ∙ moves_hand h.ticks h.round h.moves t apart stand in
    subst (λ ms. IsPlan r (Some (steps.quiet r.raft)) (HandsOver h) (hands_to_raft r (steps.quiet r.raft) (moved_all h.ticks h.round t ms) a.leases (map (λ write. write.0) a.writes))) moves
    (hands_plan r h (steps.quiet r.raft) t a.leases (map (λ write. write.0) a.writes) bytes made makes
    (spelled ∙ bytes_are a.leases r.pending (moved_all h.ticks h.round t h.moves).replica.pending h.moves (map (λ write. write.0) a.writes) handed)
    (ap (λ o. with_taken (opened r h.last) o) none ∙ ap (λ l. untold (opened r l)) last)
    (outcomes ∙ sym (moves_tell h.ticks h.round h.moves t apart stand))
    (subst (λ o. EndsOvertaken r.pending o h.outcomes) (sym none) tt)
    (let n = ap items_of moves ∙ flush_none a in omega (arith, n)))

-- it may be proposed
pub may_propose : (r : Replica) (bytes : List (List ℕ)) (moves : List Move) → MayFlush r → moves ≡ flush_moves (assigning r)
    → bytes ≡ asks_spelled (assigning r).leases ++ moves_spelled r.pending moves
    → CanRise r.raft × (last_index r.raft.log + length bytes < 2 ^ 64)
may_propose r bytes moves may m b =
    let few = few_payloads r.inbox r.pending (lease_of r).seq r.applied.state.lai r.assigned in
    let e = ap length (b ∙ ap (λ ms. asks_spelled (assigning r).leases ++ moves_spelled r.pending ms) m) in
    let last = may.last in
    (may.rise, omega (arith, few, e, last))

-- what it hands to Raft
pub flush_spelled : (r : Replica) (ticks round : ℕ) (moves : List Move) (bytes : List (List ℕ))
    → IsDistinct same_id (map (λ (p : Proposal). p.id) r.pending)
    → moves ≡ flush_moves (assigning r)
    → bytes ≡ asks_spelled (assigning r).leases ++ moves_spelled r.pending moves
    → bytes ≡ (flushed r ticks round).proposed
flush_spelled r ticks round moves bytes distinct same spelled =
    let a : Assigned = assigning r in
    let t : Told = untold (emptied r a) in
    let ms : List Move = flush_moves a in
    let handed : filter_map (write_at (moved_all ticks round t ms).replica.pending) (map (λ write. write.0) a.writes) ≡ payloads_by r.pending ms =
    ap (filter_map (write_at (moved_all ticks round t ms).replica.pending)) (sym (flush_ids a))
    ∙ moves_hand ticks round ms t (flush_apart r.inbox r.pending (lease_of r).seq r.applied.state.lai r.assigned)
    (flush_stand r.inbox r.pending (lease_of r).seq r.applied.state.lai r.assigned r.applied.state.lai distinct) in
    spelled ∙ ap (λ l. asks_spelled a.leases ++ moves_spelled r.pending l) same
    ∙ bytes_are a.leases r.pending (moved_all ticks round t ms).replica.pending ms (map (λ write. write.0) a.writes) handed
