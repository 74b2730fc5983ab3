-- An application takes the next committed entry, where there is one.
use Rattle.std.proofs.Common.{◌≡◌, ⊎_elim, ℕ, zero, suc, ◌+◌, ◌-◌, ◌<◌, ◌≤◌, Bool, true, false, cond, ltb, ltb-true, ltb-false, Option, None, Some, List, [], ◌∷◌, length, refl, sym, ap, subst, ◌∙◌, arith, get_or-set_same, get_or-set_other}
use Rattle.std.specs.Prelude.{slice_get}
use Rattle.std.proofs.lemmas.Bool.{cases_lt}
use Rattle.std.proofs.lemmas.List.{get_or_past}
use Rattle.rp_request.specs.History.{History}
use Rattle.rp_request.specs.Applied.{AppliedState, command_verdict}
use Rattle.rp_request.specs.declared.commands.Command.{Command}
use Rattle.rp_request.specs.declared.commands.Payload.{Payload}
use Rattle.rp_request.specs.declared.commands.Payload.TheVariants as payloads
use Rattle.rp_request.specs.declared.verdicts.Verdict.{Verdict}
use Rattle.rp_request.specs.declared.verdicts.Verdict.TheVariants as verdicts
use Rattle.rp_raftlog.specs.LogState.{LogState, entry_at, last_index}
use Rattle.rp_raftlog.specs.declared.entries.Entry.{Entry}
use Rattle.rp_raftsafe.specs.World as raft
use Rattle.rp_raftsafe.specs.Safety.{OneList, IsShown, IsLive}
use Rattle.rp_raftsafe.proofs.Known.{one_list_holds}
use Rattle.rp_rangesafe.specs.Ranges.{Ranges}
use Rattle.rp_rangesafe.proofs.Joint.{range_reached}
use Rattle.rp_events.specs.declared.replica_events.ReplicaEvent.TheVariants as at_replica
use Rattle.rp_events.specs.declared.node_events.Event.TheVariants as events
use Rattle.rp_events.specs.Allows.{MayApply, MayApplyNext}
use Rattle.rp_events.specs.Applications.{is_own, settled, proposer_told, applied_one, applied_where, next_entry, payload_of}
use Rattle.rp_events.specs.Replicas.{Replica, Done}
use Rattle.rp_events.specs.ReplicaEvents.{event}
use Rattle.rp_events.specs.Nodes.{Node, Status, Absent, Live, Removed, seat, opened, opened_by, after_turn}
use Rattle.rp_events.specs.NodeEvents.{by_status, step}
use Rattle.rp_events.specs.Worlds.{World, node_of}
use Rattle.rp_events.specs.Lawful.{IsReached}
use Rattle.rp_seats.specs.Standing.{Bound, RangeOk}
use Rattle.rp_seats.specs.Turned.{IsSeated}
use Rattle.rp_seats.specs.Views.{core, range_at}
use Rattle.rp_seats.proofs.Events as seat_events
use Rattle.rp_seats.proofs.Shown.{is_live}
use Rattle.rp_turns.specs.Fitting.{AreFit}
use Rattle.rp_turns.proofs.Seated.{has_opened, seated}
use Rattle.rp_bound.proofs.Along.{stands_fit}
use Rattle.rp_allowed.specs.Firm.{IsFirm}
use Rattle.rp_allowed.proofs.Firm.{reached_firm}
use Rattle.rp_allowed.proofs.Allowed.{may_apply}

-- what is committed lies in the log of each replica
module _ (lists : OneList AppliedState) (nodes : ℕ) (w : World) (reached : IsReached nodes w) (firm : IsFirm lists w) (node range : ℕ) (n : Node) (r : Replica) (has : node_of w node ≡ Some n) (live : seat n range ≡ Live r) where
  abbrev m : Ranges
  m = firm.ranges

  abbrev seen : ℕ → List raft.Event
  seen = firm.seen

  abbrev bound : Bound lists w m seen
  bound = firm.stands.bound

  fit : AreFit w
  fit = stands_fit lists w m seen firm.stands

  there : m.opened range ≡ true
  there = has_opened lists w m seen bound fit node range n r has live

  ok : RangeOk lists (length w) range (m.range range).start (seen range) w (m.range range)
  ok = bound.ranges range there

  at : IsSeated lists range (m.range range).start (seen range) w (m.range range) node n r
  at = seated lists w m seen bound fit node range n r has live

  abbrev g : raft.Range AppliedState
  g = range_at (length w) range (m.range range).start

  raft_live : IsLive (raft.world_after g (seen range)) node (core r)
  raft_live = is_live (length w) range (m.range range).start (lists g ok.is) (seen range) w (m.range range) ok.raft (range_reached m bound.reached range) node n has r live
      (seat_events.stands lists range (m.range range).start (seen range) w (m.range range) node n r at).stands.0

  shown : IsShown g ((lists g ok.is).committed (seen range)) (core r)
  shown = (lists g ok.is).shown (seen range) node (core r) raft_live

  pub in_log : (r.raft.log.base ≤ r.applied.index) × (r.raft.head.commit ≤ last_index r.raft.log)
  in_log = (shown.based, shown.commit_le)

  pub may : MayApply r
  may = may_apply lists nodes w reached firm node range n r has live

-- an index inside the log has its entry
has_at : {X : Type 0} (xs : List X) (i : ℕ) → i < length xs → (x : X) × (slice_get xs i ≡ Some x)
has_at [] i l = absurd (omega (arith, l))
has_at (x ∷ xs) zero l = (x, refl)
has_at (x ∷ xs) (suc i) l = has_at xs i (omega (arith, l))

entry_there : (log : LogState) (index : ℕ) → log.base ≤ index → index < last_index log → (e : Entry) × (entry_at log (index + 1) ≡ Some e)
entry_there log index low high =
    let k = has_at log.entries (index + 1 - log.base - 1) (omega (arith, low, high)) in
    (k.0, by_test (ltb log.base (index + 1)) refl ∙ k.1)
  where
    by_test : (b : Bool) → ltb log.base (index + 1) ≡ b → cond b (slice_get log.entries (index + 1 - log.base - 1)) None ≡ slice_get log.entries (index + 1 - log.base - 1)
    by_test true is = refl
    by_test false is = absurd (let past = ltb-false log.base (index + 1) is in omega (arith, past, low))

-- so where something is left to apply, there is a payload to apply
next_there : (r : Replica) → MayApply r → r.raft.log.base ≤ r.applied.index → r.raft.head.commit ≤ last_index r.raft.log → r.applied.index < r.raft.head.commit
    → (p : Payload) × (payload_of (next_entry r) ≡ Some p)
next_there r may low high under =
    let e = entry_there r.raft.log r.applied.index low (omega (arith, high, under)) in
    let next : next_entry r ≡ Some e.0 = by_test e.0 e.1 (ltb r.applied.index r.raft.head.commit) refl in
    let this = subst (MayApplyNext r) next may.next in
    (this.payload, ap payload_of next ∙ this.carries)
  where
    by_test : (e : Entry) → entry_at r.raft.log (r.applied.index + 1) ≡ Some e → (b : Bool) → ltb r.applied.index r.raft.head.commit ≡ b → cond b (entry_at r.raft.log (r.applied.index + 1)) None ≡ Some e
    by_test e is true below = is
    by_test e is false past = absurd (let l = ltb-false r.applied.index r.raft.head.commit past in omega (arith, l, under))

-- what an application leaves of Raft and of the applied index
pub record Applies (r s : Replica) (more : ℕ) : Type 0 where
  pub raft : s.raft ≡ r.raft
  pub index : s.applied.index ≡ r.applied.index + more

settled_keeps : (r : Replica) (c : Command) (v : Verdict) → ((settled r c v).replica.raft ≡ r.raft) × ((settled r c v).replica.applied ≡ r.applied)
settled_keeps r c verdicts.Took = (refl, refl)
settled_keeps r c (verdicts.OldLease now) = (refl, refl)
settled_keeps r c (verdicts.OldIndex lai) = (refl, refl)
settled_keeps r c verdicts.LeaseMoved = (refl, refl)
settled_keeps r c verdicts.Nothing = (refl, refl)

told_keeps : (r : Replica) (p : Payload) → ((proposer_told r p).replica.raft ≡ r.raft) × ((proposer_told r p).replica.applied ≡ r.applied)
told_keeps r payloads.Nothing = (refl, refl)
told_keeps r (payloads.Lease ask) = (refl, refl)
told_keeps r (payloads.Write c) = go (is_own r c) where
  go : (b : Bool) → ((cond b (settled r c (command_verdict r.applied.state c)) (record { replica = r; ended = [] })).replica.raft ≡ r.raft)
      × ((cond b (settled r c (command_verdict r.applied.state c)) (record { replica = r; ended = [] })).replica.applied ≡ r.applied)
  go true = settled_keeps r c (command_verdict r.applied.state c)
  go false = (refl, refl)

one_applied : (r : Replica) (p : Payload) → Applies r (applied_one r p).replica 1
one_applied r p =
    let k = told_keeps r p in record { raft = k.0; index = ap (λ h. h.index + 1) k.1 }

-- how much an application takes: one where something is left
abbrev pub taken_by : Replica → ℕ
taken_by r = cond (ltb r.applied.index r.raft.head.commit) 1 0

applies : (r : Replica) → MayApply r → r.raft.log.base ≤ r.applied.index → r.raft.head.commit ≤ last_index r.raft.log → (ticks round : ℕ)
    → Applies r (event r at_replica.Apply ticks round []).replica (taken_by r)
applies r may low high ticks round = by_test (ltb r.applied.index r.raft.head.commit) refl where
  none_next : ltb r.applied.index r.raft.head.commit ≡ false → payload_of (next_entry r) ≡ None
  none_next past = ap (λ b. payload_of (cond b (entry_at r.raft.log (r.applied.index + 1)) None)) past

  by_test : (b : Bool) → ltb r.applied.index r.raft.head.commit ≡ b → Applies r (event r at_replica.Apply ticks round []).replica (cond b 1 0)
  by_test true under =
      let p = next_there r may low high (ltb-true r.applied.index r.raft.head.commit under) in
      subst (λ o. Applies r (applied_where r o).replica 1) (sym p.1) (one_applied r p.0)
  by_test false past = subst (λ o. Applies r (applied_where r o).replica 0) (sym (none_next past)) (record { raft = refl; index = omega arith })

-- a seat that is live stays as it is when a right range opens
absent_live : (r : Replica) → ◌≡◌ {A = Status} Absent (Live r) → ⊥
absent_live r e = cc

opened_seat : (n : Node) (range : ℕ) (r : Replica) → seat n range ≡ Live r → (o : Option AppliedState) → seat (opened n o) range ≡ Live r
opened_seat n range r live None = live
opened_seat n range r live (Some s) = by_seat (seat n s.desc.id) refl where
  by_seat : (status : Status) → seat n s.desc.id ≡ status → seat (opened_by n s status) range ≡ Live r
  by_seat Absent is =
      get_or-set_other n.seats s.desc.id range _ Absent (λ (e : range ≡ s.desc.id). absent_live r (sym is ∙ ap (seat n) (sym e) ∙ live)) ∙ live
  by_seat (Live other) is = live
  by_seat (Removed history) is = live

within : (n : Node) (range : ℕ) (r : Replica) → seat n range ≡ Live r → range < length n.seats
within n range r live = ⊎_elim
    (λ (l : range < length n.seats). l)
    (λ (past : length n.seats ≤ range). absurd (absent_live r (sym (get_or_past n.seats range Absent past) ∙ live)))
    (cases_lt range (length n.seats))

-- what the seat holds after the node's application
pub seat_after : (n : Node) (range : ℕ) (r : Replica) → seat n range ≡ Live r → seat (step n (events.Apply range) []).node range ≡ Live (event r at_replica.Apply n.ticks n.rounds []).replica
seat_after n range r live =
    let d : Done = event r at_replica.Apply n.ticks n.rounds [] in
    ap (λ s. seat (by_status n range at_replica.Apply [] s).node range) live
    ∙ opened_seat (after_turn n range (Live d.replica) d) range d.replica (get_or-set_same n.seats range (Live d.replica) Absent (within n range r live)) d.right

pub seat_absent : (n : Node) (range : ℕ) → seat n range ≡ Absent → seat (step n (events.Apply range) []).node range ≡ Absent
seat_absent n range is = ap (λ s. seat (by_status n range at_replica.Apply [] s).node range) is ∙ is

pub seat_removed : (n : Node) (range : ℕ) (applied : History) → seat n range ≡ Removed applied → seat (step n (events.Apply range) []).node range ≡ Removed applied
seat_removed n range applied is = ap (λ s. seat (by_status n range at_replica.Apply [] s).node range) is ∙ is

-- an application at a live seat of a world that is reached
pub applied_once : (nodes : ℕ) (w : World) → IsReached nodes w → (node range : ℕ) (n : Node) (r : Replica) → node_of w node ≡ Some n → seat n range ≡ Live r
    → Applies r (event r at_replica.Apply n.ticks n.rounds []).replica (taken_by r)
applied_once nodes w reached node range n r has live =
    let lists : OneList AppliedState = one_list_holds AppliedState in
    let firm : IsFirm lists w = reached_firm lists nodes w reached in
    let log = in_log lists nodes w reached firm node range n r has live in
    applies r (may lists nodes w reached firm node range n r has live) log.0 log.1 n.ticks n.rounds
