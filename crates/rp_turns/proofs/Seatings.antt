-- What holds of each seat of a node still holds after each event of the node, where it still does after each event of a replica.
use Rattle.std.proofs.Common.{◌≡◌, ℕ, ◌+◌, ◌<◌, ◌≤◌, ⊎_elim, Option, None, Some, List, [], ◌∷◌, length, refl, sym, subst, arith}
use Rattle.std.proofs.lemmas.Bool.{cases_eq, cases_lt}
use Rattle.std.proofs.lemmas.List.{length-set, get_or_past}
use Rattle.rp_base.specs.declared.ids.CmdId.{CmdId}
use Rattle.rp_base.specs.declared.items.Item.{Item}
use Rattle.rp_raftstep.specs.declared.messages.Message.{Message}
use Rattle.rp_request.specs.Applied.{AppliedState}
use Rattle.rp_request.specs.declared.requests.Request.{Request}
use Rattle.rp_events.specs.declared.node_events.Event.{Event}
use Rattle.rp_events.specs.declared.node_events.Event.TheVariants as events
use Rattle.rp_events.specs.declared.replica_events.ReplicaEvent.{ReplicaEvent}
use Rattle.rp_events.specs.declared.replica_events.ReplicaEvent.TheVariants.{Admit, Ask, Transfer, Collect, Flush, Tick, Deliver, Apply, Cut, Remove, Peek, Restart}
use Rattle.rp_events.specs.Replicas.{Replica, Done, started}
use Rattle.rp_events.specs.ReplicaEvents.{event}
use Rattle.rp_events.specs.Nodes as nodes
use Rattle.rp_events.specs.Nodes.{Node, Status, Absent, Live, seat, with_seat, opened, opened_by, after_turn, range_numbers, right_base, right_base_term}
use Rattle.rp_events.specs.NodeEvents.{status_after, after_replica, by_status, live_turn, all_turns, delivered, seat_by_message, acted, with_request}
use Rattle.rp_seats.proofs.Nodes.{seat_same, seat_other}

-- what an admission, an ask and a transfer ask of who makes them; the other events ask nothing
module _ (MayAdmit : Replica → CmdId → Request → Type 0) (MayAsk : Replica → Type 0) (MayGo : ℕ → Type 0) where
  abbrev pub MayTurn : Replica → ReplicaEvent AppliedState → Type 0
  MayTurn r (Admit id request) = MayAdmit r id request
  MayTurn r Ask = MayAsk r
  MayTurn r (Transfer to) = MayGo to
  MayTurn r _ = Unit {0}

  -- so of a live seat
  abbrev pub MaySeat : ReplicaEvent AppliedState → Status → Type 0
  MaySeat e Absent = Unit {0}
  MaySeat e (Live r) = MayTurn r e
  MaySeat e (nodes.Removed applied) = Unit {0}

  -- so of a node
  abbrev pub MayAct : Node → Event AppliedState → Type 0
  MayAct n (events.Admit at id request) = MaySeat (Admit id request) (seat n at)
  MayAct n (events.Ask at) = MaySeat Ask (seat n at)
  MayAct n (events.Transfer at to) = MayGo to
  MayAct n _ = Unit {0}

  module _ (Keeps : Status → Type 0) (absent : Keeps Absent)
      (fresh : (n : Node) (t : AppliedState) → Keeps (Live (started n.node n.nodes t.lease.holder right_base right_base_term t)))
      (by_message : (n : Node) (from : ℕ) (m : Message AppliedState) → Keeps (seat_by_message n from m))
      (turns : (r : Replica) (e : ReplicaEvent AppliedState) → MayTurn r e → (ticks round : ℕ) (taken : List Item) → Keeps (Live r) → Keeps (status_after e (event r e ticks round taken).replica)) where
    abbrev AllKeep : Node → Type 0
    AllKeep n = (range : ℕ) → Keeps (seat n range)

    seated_keep : (n : Node) (at : ℕ) (status : Status) → AllKeep n → Keeps status → AllKeep (with_seat n at status)
    seated_keep n at status h w range = ⊎_elim
        (λ (own : at ≡ range). ⊎_elim
        (λ (within : range < length n.seats). subst (λ i. Keeps (seat (with_seat n i status) range)) (sym own) (subst Keeps (sym (seat_same n range status within)) w))
        (λ (past : length n.seats ≤ range). subst Keeps (sym (get_or_past (with_seat n at status).seats range Absent (let same = length-set n.seats at status in omega (arith, past, same)))) absent)
        (cases_lt range (length n.seats)))
        (λ (ne : at ≡ range → ⊥). subst Keeps (sym (seat_other n at range status ne)) (h range)) (cases_eq at range)

    opened_keep : (n : Node) (o : Option AppliedState) → AllKeep n → AllKeep (opened n o)
    opened_keep n None h = h
    opened_keep n (Some t) h = go (seat n t.desc.id) where
      go : (status : Status) → AllKeep (opened_by n t status)
      go Absent = seated_keep n t.desc.id (Live (started n.node n.nodes t.lease.holder right_base right_base_term t)) h (fresh n t)
      go (Live r) = h
      go (nodes.Removed applied) = h

    replica_keeps : (n : Node) (at : ℕ) (e : ReplicaEvent AppliedState) (d : Done) → AllKeep n → Keeps (status_after e d.replica) → AllKeep (after_replica n at e d)
    replica_keeps n at e d h w = opened_keep (after_turn n at (status_after e d.replica) d) d.right (seated_keep n at (status_after e d.replica) h w)

    status_keeps : (n : Node) (at : ℕ) (e : ReplicaEvent AppliedState) (taken : List Item) → AllKeep n → (status : Status) → seat n at ≡ status → MaySeat e status → AllKeep (by_status n at e taken status).node
    status_keeps n at e taken h Absent is may = h
    status_keeps n at e taken h (Live r) is may = replica_keeps n at e (event r e n.ticks n.rounds taken) h (turns r e may n.ticks n.rounds taken (subst Keeps is (h at)))
    status_keeps n at e taken h (nodes.Removed applied) is may = h

    turn_keeps : (n : Node) (at : ℕ) (e : ReplicaEvent AppliedState) → ((r : Replica) → MayTurn r e) → AllKeep n → (status : Status) → seat n at ≡ status → AllKeep (live_turn e n at status)
    turn_keeps n at e may h Absent is = h
    turn_keeps n at e may h (Live r) is = replica_keeps n at e (event r e n.ticks n.rounds []) h (turns r e (may r) n.ticks n.rounds [] (subst Keeps is (h at)))
    turn_keeps n at e may h (nodes.Removed applied) is = h

    all_keep : (e : ReplicaEvent AppliedState) → ((r : Replica) → MayTurn r e) → (ranges : List ℕ) (n : Node) → AllKeep n → AllKeep (all_turns e n ranges)
    all_keep e may [] n h = h
    all_keep e may (at ∷ more) n h = all_keep e may more (live_turn e n at (seat n at)) (turn_keeps n at e may h (seat n at) refl)

    message_keeps : (n : Node) (from at : ℕ) (m : Message AppliedState) → AllKeep n → (status : Status) → seat n at ≡ status → AllKeep (delivered n from at m status)
    message_keeps n from at m h Absent is = seated_keep n at (seat_by_message n from m) h (by_message n from m)
    message_keeps n from at m h (Live r) is = replica_keeps n at (Deliver from m) (event r (Deliver from m) n.ticks n.rounds []) h (turns r (Deliver from m) tt n.ticks n.rounds [] (subst Keeps is (h at)))
    message_keeps n from at m h (nodes.Removed applied) is = h

    every : (e : ReplicaEvent AppliedState) → ((r : Replica) → MayTurn r e) → (status : Status) → MaySeat e status
    every e may Absent = tt
    every e may (Live r) = may r
    every e may (nodes.Removed applied) = tt

    pub acted_keeps : (n : Node) (ev : Event AppliedState) (taken : List Item) → MayAct n ev → AllKeep n → AllKeep (acted n ev taken).node
    acted_keeps n (events.Admit at id request) taken may h = status_keeps (with_request n request) at (Admit id request) [] h (seat n at) refl may
    acted_keeps n (events.Ask at) taken may h = status_keeps n at Ask [] h (seat n at) refl may
    acted_keeps n (events.Transfer at to) taken may h = status_keeps n at (Transfer to) [] h (seat n at) refl (every (Transfer to) (λ r. may) (seat n at))
    acted_keeps n (events.Collect at) taken may h = status_keeps n at Collect taken h (seat n at) refl (every Collect (λ r. tt) (seat n at))
    acted_keeps n (events.Flush at) taken may h = status_keeps n at Flush [] h (seat n at) refl (every Flush (λ r. tt) (seat n at))
    acted_keeps n events.Tick taken may h = all_keep Tick (λ r. tt) range_numbers (record n { ticks = n.ticks + 1 }) h
    acted_keeps n (events.Deliver from at number m) taken may h = message_keeps n from at m h (seat n at) refl
    acted_keeps n (events.Apply at) taken may h = status_keeps n at Apply [] h (seat n at) refl (every Apply (λ r. tt) (seat n at))
    acted_keeps n (events.Cut at) taken may h = status_keeps n at Cut [] h (seat n at) refl (every Cut (λ r. tt) (seat n at))
    acted_keeps n (events.Remove at) taken may h = status_keeps n at Remove [] h (seat n at) refl (every Remove (λ r. tt) (seat n at))
    acted_keeps n (events.Peek at key) taken may h = status_keeps n at (Peek key) [] h (seat n at) refl (every (Peek key) (λ r. tt) (seat n at))
    acted_keeps n events.Restart taken may h = all_keep Restart (λ r. tt) range_numbers n h
    acted_keeps n events.Round taken may h = h
