-- Each event of one replica that is no admission and no message is a turn of its range.
use Rattle.std.proofs.Common.{◌≡◌, ℕ, ◌+◌, Option, None, Some, List, [], length, refl, ap, subst}
use Rattle.std.specs.List.{AllByRecursion}
use Rattle.std.proofs.lemmas.Bool.{cond_both}
use Rattle.rp_base.specs.declared.ids.CmdId.{CmdId}
use Rattle.rp_base.specs.declared.items.Item.{Item}
use Rattle.rp_request.specs.Applied.{AppliedState}
use Rattle.rp_request.specs.Fits.{FitsAsk}
use Rattle.rp_request.specs.declared.commands.Payload.{Payload}
use Rattle.rp_request.specs.declared.outcomes.Outcome.{Outcome}
use Rattle.rp_request.specs.declared.outcomes.Refusal.TheVariants.{NotLeaseHolder}
use Rattle.rp_raftsafe.specs.World as raft
use Rattle.rp_raftsafe.specs.Safety.{OneList}
use Rattle.rp_rangesafe.specs.World as machine
use Rattle.rp_rangesafe.specs.World.{here}
use Rattle.rp_events.specs.declared.answers.EventAnswer.TheVariants as answers
use Rattle.rp_events.specs.declared.node_events.Event.TheVariants as events
use Rattle.rp_events.specs.declared.replica_events.ReplicaEvent.TheVariants.{Ask, Transfer, Collect, Flush, Apply, Cut, Remove, Peek}
use Rattle.rp_events.specs.Replicas.{Replica, Done, leaves, lease_of, holds_lease}
use Rattle.rp_events.specs.LeaseAsks.{is_held, answers_ask, ask_for, expiry_of, lease_ticks}
use Rattle.rp_events.specs.Flushes.{assigning}
use Rattle.rp_events.specs.Applications.{payload_of, next_entry, applied_where}
use Rattle.rp_events.specs.ReplicaEvents.{event}
use Rattle.rp_events.specs.Nodes.{Node, Live}
use Rattle.rp_events.specs.NodeEvents.{by_status}
use Rattle.rp_events.specs.Worlds as worlds
use Rattle.rp_events.specs.Worlds.{World, Scene, node_of, happens, outcome_at}
use Rattle.rp_seats.specs.Views.{range_at}
use Rattle.rp_seats.specs.Scenes.{seat_doings}
use Rattle.rp_seats.specs.Standing.{SeatOk}
use Rattle.rp_seats.specs.Turned.{FitsPending, SeatTurned, IsNext, IsSeated, MayTurn, Turns}
use Rattle.rp_seats.proofs.Shown.{state_is, next_is}
use Rattle.rp_seats.proofs.Seats.{quiet_turn, items_seat, flush_turn, apply_turn, remove_turn}
use Rattle.rp_seats.proofs.Scenes.{replica_scene}

module _ (lists : OneList AppliedState) (range : ℕ) (s : AppliedState) (seen : List raft.Event) (w : World) (h : machine.World) (node : ℕ) (n : Node) (r : Replica)
    (k : IsSeated lists range s seen w h node n r) where
  abbrev told : CmdId → Option Outcome
  told id = outcome_at id n

  abbrev at : worlds.Happening → Scene
  at what = record { node = node; what = what }

  pub stands : SeatOk h node range (Live r) told
  stands = subst (λ z. SeatOk h node range z told) k.live (k.ok.seats node n k.has)

  pub state : here h node ≡ r.applied.state
  state = state_is (length w) range s (lists (range_at (length w) range s) k.ok.is) seen w h k.ok.raft k.reached node n k.has r k.live stands.stands.0

  pub next : (p : Payload) → payload_of (next_entry r) ≡ Some p → IsNext h node p
  next p is = next_is (length w) range s (lists (range_at (length w) range s) k.ok.is) seen w h k.ok.raft k.reached node n k.has r k.live stands.stands.0 p is

  abbrev Left : Done → Type 0
  Left d = SeatTurned node range h told (Live d.replica) d.outcomes d.proposed

  pub flush_scene : MayTurn range s w (at (worlds.Flush range)) → AllByRecursion FitsAsk (assigning r).leases → FitsPending (event r Flush n.ticks n.rounds []).replica.pending → Turns lists range s seen w h (at (worlds.Flush range))
  flush_scene may asks_fit fits =
      replica_scene lists range s k.below seen w k.shaped h k.ok k.reached (at (worlds.Flush range)) may.0 may.1 n k.has k.ends (events.Flush range) refl Flush [] r k.live
      (ap (λ z. (by_status n range Flush [] z).node) k.live) 0 (ap (seat_doings range n range 0 Flush []) k.live) (λ id a. refl)
      (flush_turn node range h told r stands state n.ticks n.rounds [] asks_fit fits)

  pub apply_scene : MayTurn range s w (at (worlds.Apply range)) → Turns lists range s seen w h (at (worlds.Apply range))
  apply_scene may =
      replica_scene lists range s k.below seen w k.shaped h k.ok k.reached (at (worlds.Apply range)) may.0 may.1 n k.has k.ends (events.Apply range) refl Apply [] r k.live
      (ap (λ z. (by_status n range Apply [] z).node) k.live) 0 (ap (seat_doings range n range 0 Apply []) k.live) (λ id a. refl)
      (go (payload_of (next_entry r)) refl)
    where
      go : (o : Option Payload) → payload_of (next_entry r) ≡ o → Left (applied_where r o)
      go None is = quiet_turn node range h told (Live r) stands
      go (Some p) is =
          let there = next p is in
          apply_turn node range h told r stands state p there.within there.entry_is

  pub remove_scene : MayTurn range s w (at (worlds.Remove range)) → Turns lists range s seen w h (at (worlds.Remove range))
  remove_scene may =
      replica_scene lists range s k.below seen w k.shaped h k.ok k.reached (at (worlds.Remove range)) may.0 may.1 n k.has k.ends (events.Remove range) refl Remove [] r k.live
      (ap (λ z. (by_status n range Remove [] z).node) k.live) 0 (ap (seat_doings range n range 0 Remove []) k.live) (λ id a. refl)
      (remove_turn node range h told r stands state)

  pub cut_scene : MayTurn range s w (at (worlds.Cut range)) → Turns lists range s seen w h (at (worlds.Cut range))
  cut_scene may =
      replica_scene lists range s k.below seen w k.shaped h k.ok k.reached (at (worlds.Cut range)) may.0 may.1 n k.has k.ends (events.Cut range) refl Cut [] r k.live
      (ap (λ z. (by_status n range Cut [] z).node) k.live) 0 (ap (seat_doings range n range 0 Cut []) k.live) (λ id a. refl)
      (quiet_turn node range h told (Live (event r Cut n.ticks n.rounds []).replica) (record { stands = stands.stands; pending = stands.pending }))

  pub peek_scene : (key : ℕ) → MayTurn range s w (at (worlds.Peek range key)) → Turns lists range s seen w h (at (worlds.Peek range key))
  peek_scene key may =
      replica_scene lists range s k.below seen w k.shaped h k.ok k.reached (at (worlds.Peek range key)) may.0 may.1 n k.has k.ends (events.Peek range key) refl (Peek key) [] r k.live
      (ap (λ z. (by_status n range (Peek key) [] z).node) k.live) 0 (ap (seat_doings range n range 0 (Peek key) []) k.live) (λ id a. refl)
      (quiet_turn node range h told (Live r) stands)

  pub collect_scene : (taken : List Item) → MayTurn range s w (at (worlds.Collect range taken)) → Turns lists range s seen w h (at (worlds.Collect range taken))
  collect_scene taken may =
      replica_scene lists range s k.below seen w k.shaped h k.ok k.reached (at (worlds.Collect range taken)) may.0 may.1 n k.has k.ends (events.Collect range) refl Collect taken r k.live
      (ap (λ z. (by_status n range Collect taken z).node) k.live) 0 (ap (seat_doings range n range 0 Collect taken) k.live) (λ id a. refl)
      (quiet_turn node range h told (Live (event r Collect n.ticks n.rounds taken).replica) (items_seat node range h told r taken stands))

  pub ask_scene : MayTurn range s w (at (worlds.Ask range)) → Turns lists range s seen w h (at (worlds.Ask range))
  ask_scene may =
      replica_scene lists range s k.below seen w k.shaped h k.ok k.reached (at (worlds.Ask range)) may.0 may.1 n k.has k.ends (events.Ask range) refl Ask [] r k.live
      (ap (λ z. (by_status n range Ask [] z).node) k.live) 0 (ap (seat_doings range n range 0 Ask []) k.live) (λ id a. refl)
      (cond_both (is_held r n.ticks) (leaves r (answers.LeaseHeld (lease_of r) n.ticks)) (answers_ask r (ask_for r r.raft.head.node (expiry_of r n.ticks))) Left
      (λ _. quiet_turn node range h told (Live r) stands)
      (λ _. quiet_turn node range h told (Live (answers_ask r (ask_for r r.raft.head.node (expiry_of r n.ticks))).replica) (record { stands = stands.stands; pending = stands.pending })))

  pub transfer_scene : (to : ℕ) → MayTurn range s w (at (worlds.Transfer range to)) → Turns lists range s seen w h (at (worlds.Transfer range to))
  transfer_scene to may =
      replica_scene lists range s k.below seen w k.shaped h k.ok k.reached (at (worlds.Transfer range to)) may.0 may.1 n k.has k.ends (events.Transfer range to) refl (Transfer to) [] r k.live
      (ap (λ z. (by_status n range (Transfer to) [] z).node) k.live) 0 (ap (seat_doings range n range 0 (Transfer to) []) k.live) (λ id a. refl)
      (cond_both (holds_lease r) (answers_ask r (ask_for r to (n.ticks + lease_ticks))) (leaves r (answers.Refused (NotLeaseHolder (lease_of r)))) Left
      (λ _. quiet_turn node range h told (Live (answers_ask r (ask_for r to (n.ticks + lease_ticks))).replica) (record { stands = stands.stands; pending = stands.pending }))
      (λ _. quiet_turn node range h told (Live r) stands))
