-- A message at a seat with a live replica is a turn of its range: a snapshot that it brings comes first.
use Rattle.std.proofs.Common.{◌≡◌, ℕ, ◌+◌, ◌≤◌, true, Option, None, Some, List, [], ◌∷◌, length, refl, sym, ap, subst, ◌∙◌, arith}
use Rattle.std.specs.Option.{option_map}
use Rattle.std.proofs.lemmas.Bool.{cond_both}
use Rattle.rp_base.specs.declared.ids.CmdId.{CmdId}
use Rattle.rp_raftstep.specs.declared.messages.Message.{Message}
use Rattle.rp_raftstep.specs.Step.{Draft, received}
use Rattle.rp_request.specs.Applied.{AppliedState}
use Rattle.rp_request.specs.declared.outcomes.Ambiguity.TheVariants as causes
use Rattle.rp_request.specs.declared.outcomes.Outcome.{Outcome}
use Rattle.rp_request.specs.declared.outcomes.Outcome.TheVariants as outcomes
use Rattle.rp_pending.specs.declared.proposals.Proposal.{Proposal}
use Rattle.rp_pending.specs.declared.refreshes.Refresh.{Refresh}
use Rattle.rp_pending.specs.Refreshes.{goes_back}
use Rattle.rp_raftsafe.specs.World as raft
use Rattle.rp_raftsafe.specs.Safety.{OneList, HasSent}
use Rattle.rp_raftsafe.specs.Snapshots.{BringsAbove}
use Rattle.rp_raftsafe.proofs.Snapped.{takes_above_holds}
use Rattle.rp_rangesafe.specs.Attempts.{at_node}
use Rattle.rp_rangesafe.specs.World as machine
use Rattle.rp_rangesafe.specs.World.{here, state_at, overtaken}
use Rattle.rp_rangesafe.proofs.Tables.{node_same}
use Rattle.rp_events.specs.declared.parcels.Parcel.{Parcel}
use Rattle.rp_events.specs.declared.node_events.Event.TheVariants as events
use Rattle.rp_events.specs.declared.replica_events.ReplicaEvent.TheVariants.{Deliver}
use Rattle.rp_events.specs.Replicas.{Replica, Told, untold, has_new_leader}
use Rattle.rp_events.specs.Moves.{hands_to_raft}
use Rattle.rp_events.specs.Ends.{overtaken_by}
use Rattle.rp_events.specs.Refreshes.{with_taken, delivered_by, refreshing, refreshed_by, refresh_moves}
use Rattle.rp_events.specs.ReplicaEvents.{event}
use Rattle.rp_events.specs.Nodes.{Node, Live, parcel_of}
use Rattle.rp_events.specs.NodeEvents as node_events
use Rattle.rp_events.specs.Lists.{base_of}
use Rattle.rp_events.specs.Worlds as worlds
use Rattle.rp_events.specs.Worlds.{World, sent_by, delivery, outcome_at}
use Rattle.rp_seats.specs.Views.{range_at}
use Rattle.rp_seats.specs.Scenes.{message_doings}
use Rattle.rp_seats.specs.Standing.{PendingOk, SeatOk}
use Rattle.rp_seats.specs.Steps.{told_after, IsEnd, EndEach}
use Rattle.rp_seats.specs.Turned.{FitsPending, SeatTurned, IsJump, IsSeated, MayTurn, Turns, scene_at}
use Rattle.rp_seats.proofs.Ends.{ends_beside, snapshot_ends, overtook}
use Rattle.rp_seats.proofs.Seats.{handed_turn, refresh_above, ended_were_pending}
use Rattle.rp_seats.proofs.Shown.{state_is, shows}
use Rattle.rp_seats.proofs.Jumps.{parcel_sent, snapshot_known}
use Rattle.rp_seats.proofs.Scenes.{replica_scene}

-- the refresh behind a message, where a leader is new
refreshed_turn : (node range : ℕ) (h : machine.World) (told : CmdId → Option Outcome) (r : Replica) (draft : Draft AppliedState) (ticks round : ℕ) (t : Told)
    → SeatOk h node range (Live t.replica) (told_after told t.ended) → EndEach told t.ended → here h node ≡ t.replica.applied.state
    → FitsPending (delivered_by r draft ticks round t).replica.pending
    → SeatTurned node range h told (Live (delivered_by r draft ticks round t).replica) (delivered_by r draft ticks round t).outcomes (delivered_by r draft ticks round t).proposed
refreshed_turn node range h told r draft ticks round t s fin state =
    let f : Refresh = refreshing t.replica ticks true in
    cond_both (has_new_leader r.raft.head draft.state.head) (refreshed_by r draft ticks round t f) (hands_to_raft r draft t [] [])
    (λ z. FitsPending z.replica.pending → SeatTurned node range h told (Live z.replica) z.outcomes z.proposed)
    (λ _ fits. handed_turn node range h told ticks round t (refresh_moves f) (refreshed_by r draft ticks round t f).replica.raft [] f.again s fin (refresh_above f) state tt fits)
    (λ _ fits. handed_turn node range h told ticks round t [] (hands_to_raft r draft t [] []).replica.raft [] [] s fin tt state tt fits)

module _ (node range : ℕ) (h : machine.World) (told : CmdId → Option Outcome) (r : Replica) (s : SeatOk h node range (Live r) told) (state : here h node ≡ r.applied.state) where
  -- a snapshot that is taken in
  module _ (index : ℕ) (snapshot : AppliedState) (jump : IsJump h (base_of range) index snapshot) (onward : h.index node ≤ jump.to) where
    abbrev k : machine.World
    k = machine.happens h (machine.Snapshot node jump.to)

    abbrev t : Told
    t = with_taken r (Some (index, snapshot))

    some_is : (a b : Outcome) → ◌≡◌ {A = Option Outcome} (Some a) (Some b) → a ≡ b
    some_is a b e = cc

    is_end : (p : Proposal) (o : Outcome) → overtaken_by snapshot.lai p ≡ Some o → IsEnd o
    is_end p o = cond_both (goes_back snapshot.lai p) (overtook snapshot.lai p) None (λ z. z ≡ Some o → IsEnd o)
        (λ _ e. subst IsEnd (some_is (outcomes.Ambiguous (causes.Snapshot p.max snapshot.lai)) o e) tt) (λ _ e. absurd cc)

    ends : EndEach told t.ended
    ends = ended_were_pending node range h told r s state (overtaken_by snapshot.lai) is_end

    beside : PendingOk (at_node node (overtaken snapshot.lai) h.attempt) node t.replica.pending t.replica.latches (told_after told t.ended)
    beside = ends_beside (overtaken_by snapshot.lai) (overtaken snapshot.lai) (snapshot_ends snapshot.lai) node h.attempt r.pending r.latches told s.pending

    jumped : SeatOk k node range (Live t.replica) (told_after told t.ended)
    jumped = record {
      stands = (ap (λ i. i + base_of range) (node_same h.index node jump.to) ∙ jump.at, s.stands.1, s.stands.2);
      pending = subst (λ f. PendingOk f node t.replica.pending t.replica.latches (told_after told t.ended))
          (ap (λ (z : AppliedState). at_node node (overtaken z.lai) h.attempt) (sym jump.state_is)) beside;
    }

    state_then : here k node ≡ snapshot
    state_then = ap (state_at h) (node_same h.index node jump.to) ∙ jump.state_is

    pub snapshot_turn : (draft : Draft AppliedState) (ticks round : ℕ) → FitsPending (delivered_by r draft ticks round t).replica.pending
        → SeatTurned node range h told (Live (delivered_by r draft ticks round t).replica) (delivered_by r draft ticks round t).outcomes (delivered_by r draft ticks round t).proposed
    snapshot_turn draft ticks round fits =
        let more = refreshed_turn node range k told r draft ticks round t jumped ends state_then fits in
        record {
          events = machine.Snapshot node jump.to ∷ more.events;
          lawful = (record { live = s.stands.1; onward = onward; within = jump.within }, more.lawful);
          own = (refl, more.own);
          quiet = more.quiet;
          log = more.log;
          seat = more.seat;
          ends = more.ends;
          may = more.may;
        }

  pub message_turn : (from : ℕ) (m : Message AppliedState) (ticks round : ℕ)
      → ((index : ℕ) (snapshot : AppliedState) → (received r.raft from m).taken ≡ Some (index, snapshot) → (j : IsJump h (base_of range) index snapshot) × (h.index node ≤ j.to))
      → FitsPending (event r (Deliver from m) ticks round []).replica.pending
      → SeatTurned node range h told (Live (event r (Deliver from m) ticks round []).replica) (event r (Deliver from m) ticks round []).outcomes (event r (Deliver from m) ticks round []).proposed
  message_turn from m ticks round jumps = go draft.taken refl where
    draft : Draft AppliedState
    draft = received r.raft from m

    go : (o : Option (ℕ × AppliedState)) → draft.taken ≡ o → FitsPending (delivered_by r draft ticks round (with_taken r o)).replica.pending
        → SeatTurned node range h told (Live (delivered_by r draft ticks round (with_taken r o)).replica) (delivered_by r draft ticks round (with_taken r o)).outcomes
        (delivered_by r draft ticks round (with_taken r o)).proposed
    go None is fits = refreshed_turn node range h told r draft ticks round (untold r) s tt state fits
    go (Some x) is fits = let j = jumps x.0 x.1 is in snapshot_turn x.0 x.1 j.0 j.1 draft ticks round fits

module _ (lists : OneList AppliedState) (range : ℕ) (s : AppliedState) (seen : List raft.Event) (w : World) (h : machine.World) (node : ℕ) (n : Node) (r : Replica)
    (k : IsSeated lists range s seen w h node n r) where
  abbrev told : CmdId → Option Outcome
  told id = outcome_at id n

  stands : SeatOk h node range (Live r) told
  stands = subst (λ z. SeatOk h node range z told) k.live (k.ok.seats node n k.has)

  state : here h node ≡ r.applied.state
  state = state_is (length w) range s (lists (range_at (length w) range s) k.ok.is) seen w h k.ok.raft k.reached node n k.has r k.live stands.stands.0

  module _ (from number to : ℕ) (m : Message AppliedState) (at : parcel_of (sent_by w from) number ≡ Some (record { to = to; range = range; message = m })) where
    abbrev parcel : Parcel AppliedState
    parcel = record { to = to; range = range; message = m }

    sent : HasSent (raft.world_after (range_at (length w) range s) seen) from to m
    sent = parcel_sent (length w) range s (lists (range_at (length w) range s) k.ok.is) seen w h k.ok.raft from number parcel at refl

    pub jumps : (index : ℕ) (snapshot : AppliedState) → (received r.raft from m).taken ≡ Some (index, snapshot) → (j : IsJump h (base_of range) index snapshot) × (h.index node ≤ j.to)
    jumps index snapshot e =
        let b : BringsAbove r.raft m index snapshot = takes_above_holds AppliedState r.raft from m index snapshot e in
        let j : IsJump h (base_of range) index snapshot = snapshot_known (length w) range s (lists (range_at (length w) range s) k.ok.is) seen w h k.ok.raft from to b.term index b.index_term snapshot
        (subst (λ z. HasSent (raft.world_after (range_at (length w) range s) seen) from to z) b.is sent) in
        let shown = shows (length w) range s (lists (range_at (length w) range s) k.ok.is) seen w h k.ok.raft k.reached node n k.has r k.live stands.stands.0 in
        let applied_le = shown.applied_le in
        let here_at = stands.stands.0 in
        let there_at = j.at in
        let above = b.above in
        (j, omega (arith, applied_le, here_at, there_at, above))

    pub deliver_scene : MayTurn range s w (scene_at node (worlds.Deliver from number)) → FitsPending (event r (Deliver from m) n.ticks n.rounds []).replica.pending
        → Turns lists range s seen w h (scene_at node (worlds.Deliver from number))
    deliver_scene may fits =
        replica_scene lists range s k.below seen w k.shaped h k.ok k.reached (scene_at node (worlds.Deliver from number)) may.0 may.1 n k.has k.ends (events.Deliver from range number m)
        (ap (option_map (delivery from number)) at) (Deliver from m) [] r k.live
        (ap (node_events.delivered n from range m) k.live) number (ap (message_doings range n range from number m) k.live) (λ id a. refl)
        (message_turn node range h told r stands state from m n.ticks n.rounds jumps fits)
