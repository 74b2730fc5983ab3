-- What a scene leaves of a number that is no range's: no seat and no message.
use Rattle.std.proofs.Common.{◌≡◌, ℕ, ◌+◌, ◌<◌, ◌≤◌, Option, None, Some, List, [], ◌∷◌, length, refl, sym, ap, ◌∙◌, arith}
use Rattle.std.proofs.lemmas.List.{get_or_past}
use Rattle.rp_base.specs.declared.items.Item.{Item}
use Rattle.rp_raftstep.specs.declared.messages.Message.{Message}
use Rattle.rp_raftstep.specs.Step.{absent_answer}
use Rattle.rp_request.specs.Applied.{AppliedState}
use Rattle.rp_events.specs.declared.node_events.Event.{Event}
use Rattle.rp_events.specs.declared.node_events.Event.TheVariants as events
use Rattle.rp_events.specs.declared.replica_events.ReplicaEvent.{ReplicaEvent}
use Rattle.rp_events.specs.declared.replica_events.ReplicaEvent.TheVariants.{Admit, Ask, Transfer, Collect, Flush, Tick, Deliver, Apply, Cut, Remove, Peek, Restart}
use Rattle.rp_events.specs.Replicas.{Done}
use Rattle.rp_events.specs.ReplicaEvents.{event}
use Rattle.rp_events.specs.Nodes.{Node, Status, Absent, Live, Removed, seat, opened, opened_by, after_turn, range_numbers}
use Rattle.rp_events.specs.NodeEvents.{status_after, after_replica, by_status, live_turn, all_turns, delivered, acted, step, with_request}
use Rattle.rp_seats.specs.Views.{sent_of, site_of, core_of}
use Rattle.rp_seats.specs.Standing.{IsShaped}
use Rattle.rp_seats.proofs.Nodes.{live_within, sent_other}
use Rattle.rp_seats.proofs.Shaped.{shaped_step, shaped_live}
use Rattle.rp_seats.proofs.Turns.{same_site}

sent_opened : (n : Node) (o : Option AppliedState) → (opened n o).sent ≡ n.sent
sent_opened n None = refl
sent_opened n (Some t) = go (seat n t.desc.id) where
  go : (status : Status) → (opened_by n t status).sent ≡ n.sent
  go Absent = refl
  go (Live r) = refl
  go (Removed applied) = refl

module _ (nodes node range : ℕ) (far : 8 ≤ range) where
  apart : (n : Node) → IsShaped nodes node n → (at : ℕ) → at < length n.seats → at ≡ range → ⊥
  apart n s at lt same = let eight = s.eight in omega (arith, far, lt, same, eight)

  replica_sent : (n : Node) (at : ℕ) (e : ReplicaEvent AppliedState) (d : Done) → (at ≡ range → ⊥) → sent_of range (after_replica n at e d).sent ≡ sent_of range n.sent
  replica_sent n at e d ne = ap (sent_of range) (sent_opened (after_turn n at (status_after e d.replica) d) d.right) ∙ sent_other range at n.sent d.messages ne

  status_sent : (n : Node) → IsShaped nodes node n → (at : ℕ) (e : ReplicaEvent AppliedState) (taken : List Item) (status : Status) → seat n at ≡ status
      → sent_of range (by_status n at e taken status).node.sent ≡ sent_of range n.sent
  status_sent n s at e taken Absent is = refl
  status_sent n s at e taken (Live r) is = replica_sent n at e (event r e n.ticks n.rounds taken) (apart n s at (live_within n at r is))
  status_sent n s at e taken (Removed applied) is = refl

  turn_sent : (n : Node) → IsShaped nodes node n → (at : ℕ) (e : ReplicaEvent AppliedState) (status : Status) → seat n at ≡ status → sent_of range (live_turn e n at status).sent ≡ sent_of range n.sent
  turn_sent n s at e Absent is = refl
  turn_sent n s at e (Live r) is = replica_sent n at e (event r e n.ticks n.rounds []) (apart n s at (live_within n at r is))
  turn_sent n s at e (Removed applied) is = refl

  all_sent : (e : ReplicaEvent AppliedState) (ranges : List ℕ) (n : Node) → IsShaped nodes node n → sent_of range (all_turns e n ranges).sent ≡ sent_of range n.sent
  all_sent e [] n s = refl
  all_sent e (at ∷ more) n s =
      all_sent e more (live_turn e n at (seat n at)) (shaped_live nodes node n at e s (seat n at)) ∙ turn_sent n s at e (seat n at) refl

  message_sent : (n : Node) → IsShaped nodes node n → (from at : ℕ) (m : Message AppliedState) → (at ≡ range → ⊥) → (status : Status) → sent_of range (delivered n from at m status).sent ≡ sent_of range n.sent
  message_sent n s from at m ne Absent = sent_other range at n.sent (absent_answer from m) ne
  message_sent n s from at m ne (Live r) = replica_sent n at (Deliver from m) (event r (Deliver from m) n.ticks n.rounds []) ne
  message_sent n s from at m ne (Removed applied) = refl

  -- no message of it comes
  abbrev pub IsApart : Event AppliedState → Type 0
  IsApart (events.Deliver from at number m) = at ≡ range → ⊥
  IsApart _ = Unit {0}

  acted_sent : (n : Node) → IsShaped nodes node n → (ev : Event AppliedState) (taken : List Item) → IsApart ev → sent_of range (acted n ev taken).node.sent ≡ sent_of range n.sent
  acted_sent n s (events.Admit at id request) taken k = status_sent (with_request n request) (record { number = s.number; of = s.of; eight = s.eight }) at (Admit id request) [] (seat n at) refl
  acted_sent n s (events.Ask at) taken k = status_sent n s at Ask [] (seat n at) refl
  acted_sent n s (events.Transfer at to) taken k = status_sent n s at (Transfer to) [] (seat n at) refl
  acted_sent n s (events.Collect at) taken k = status_sent n s at Collect taken (seat n at) refl
  acted_sent n s (events.Flush at) taken k = status_sent n s at Flush [] (seat n at) refl
  acted_sent n s events.Tick taken k = all_sent Tick range_numbers (record n { ticks = n.ticks + 1 }) (record { number = s.number; of = s.of; eight = s.eight })
  acted_sent n s (events.Deliver from at number m) taken k = message_sent n s from at m k (seat n at)
  acted_sent n s (events.Apply at) taken k = status_sent n s at Apply [] (seat n at) refl
  acted_sent n s (events.Cut at) taken k = status_sent n s at Cut [] (seat n at) refl
  acted_sent n s (events.Remove at) taken k = status_sent n s at Remove [] (seat n at) refl
  acted_sent n s (events.Peek at key) taken k = status_sent n s at (Peek key) [] (seat n at) refl
  acted_sent n s events.Restart taken k = all_sent Restart range_numbers n s
  acted_sent n s events.Round taken k = refl

  past_seat : (n : Node) → IsShaped nodes node n → seat n range ≡ Absent
  past_seat n s = get_or_past n.seats range Absent (let eight = s.eight in omega (arith, far, eight))

  pub far_site : (n : Node) → IsShaped nodes node n → (ev : Event AppliedState) (taken : List Item) → IsApart ev → site_of range (step n ev taken).node ≡ site_of range n
  far_site n s ev taken k =
      same_site _ _ _ _ (ap core_of (past_seat (step n ev taken).node (shaped_step nodes node n ev taken s) ∙ sym (past_seat n s))) (acted_sent n s ev taken k)
