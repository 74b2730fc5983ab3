-- Events after which a node's replicas send nothing and end no attempt.
use Rattle.std.proofs.Common.{◌≡◌, ◌<◌, ◌≤◌, ℕ, ◌+◌, false, List, [], ◌∷◌, ◌++◌, length, map, drop, get_or, slice_index_or, slice_set, refl, sym, ap, subst, ◌∙◌, arith, below_more}
use Rattle.std.specs.Prelude.{IsTrue}
use Rattle.std.proofs.lemmas.List.{append-nil, set-get_or}
use Rattle.rp_raftstep.specs.declared.messages.Message.{Message}
use Rattle.rp_request.specs.Applied.{AppliedState}
use Rattle.rp_events.specs.declared.answers.EventAnswer.TheVariants as answers
use Rattle.rp_events.specs.declared.journals.PastEvent.TheVariants as past
use Rattle.rp_events.specs.declared.replica_events.ReplicaEvent.TheVariants as at_replica
use Rattle.rp_events.specs.MaySteps.{SeatAllows}
use Rattle.rp_events.specs.NodeEvents.{all_turns, after_replica, delivered, done, live_turn}
use Rattle.rp_events.specs.Nodes.{Node, Status, Absent, Live, Removed, after_turn, range_numbers, seat, with_seat, written}
use Rattle.rp_events.specs.Replicas as replicas
use Rattle.rp_events.specs.Replicas.{Done, leaves}
use Rattle.rp_node.specs.declared.cores.Core.{Core}
use Rattle.rp_node.specs.declared.logs.Logs.{Logs}
use Rattle.rp_node.specs.declared.seats.Seat.{Seat}
use Rattle.rp_node.specs.declared.seats.Seat.TheVariants as seats
use Rattle.rp_node.specs.Cores.{AreAlike, is_absent, node_of, seat_in, status_of}
use Rattle.rp_node.specs.Plans.{answered}
use Rattle.rp_node.specs.Quiet.{TurnsQuietly, only_counts_in}
use Rattle.rp_node.specs.Ticks.{with_ticks}
use Rattle.rp_node.proofs.Seating.{alike_node, seat_is, seat_of, with_status}
use Rattle.rp_node.proofs.Ticking.{next_number}
use Rattle.rp_node.proofs.Turning.{written_node}

-- the seat changes, and nothing is sent or ended
after_quiet : (n : Node) (range : ℕ) (after : replicas.Replica) → after_turn n range (Live after) (leaves after answers.Done) ≡ with_seat n range (Live after)
after_quiet n range after =
    ap (λ l. record (with_seat n range (Live after)) { sent = l; outcomes = n.outcomes ++ [] }) (append-nil n.sent)
    ∙ ap (λ l. record (with_seat n range (Live after)) { outcomes = l }) (append-nil n.outcomes)

-- the seat stays
same_seat : (n : Node) (range : ℕ) (s : Status) → seat n range ≡ s → with_seat n range s ≡ n
same_seat n range s here =
    ap (λ (x : Status). with_seat n range x) (sym here)
    ∙ ap (λ (l : List Status). record n { seats = l }) (set-get_or n.seats range Absent)

-- a tick at one seat
pub quiet_turn : (n : Node) (range : ℕ) (old new : Status) → seat n range ≡ old → TurnsQuietly at_replica.Tick n.ticks old new → with_seat n range new ≡ live_turn at_replica.Tick n range old
quiet_turn n range Absent new here turns = ap (λ (s : Status). with_seat n range s) turns ∙ same_seat n range Absent here
quiet_turn n range (Live r) Absent here turns = absurd turns
quiet_turn n range (Live r) (Live after) here turns =
    sym (ap (λ (d : Done). after_replica n range at_replica.Tick d) (turns n.rounds) ∙ after_quiet n range after)
quiet_turn n range (Live r) (Removed applied) here turns = absurd turns
quiet_turn n range (Removed applied) new here turns = ap (λ (s : Status). with_seat n range s) turns ∙ same_seat n range (Removed applied) here

-- a message at one seat
pub quiet_delivery : (n : Node) (from range : ℕ) (m : Message AppliedState) (old : Seat) (new : Status) → seat n range ≡ status_of old → is_absent old ≡ false → TurnsQuietly (at_replica.Deliver from m) n.ticks (status_of old) new → with_seat n range new ≡ delivered n from range m (status_of old)
quiet_delivery n from range m seats.Absent new here there turns = absurd cc
quiet_delivery n from range m (seats.Live held) Absent here there turns = absurd turns
quiet_delivery n from range m (seats.Live held) (Live after) here there turns =
    sym (ap (λ (d : Done). after_replica n range (at_replica.Deliver from m) d) (turns n.rounds) ∙ after_quiet n range after)
quiet_delivery n from range m (seats.Live held) (Removed applied) here there turns = absurd turns
quiet_delivery n from range m (seats.Removed kept) new here there turns = ap (λ (s : Status). with_seat n range s) turns ∙ same_seat n range (Removed kept.history) here

-- the tick is counted at one seat of a node
pub counted_at : (c : Core) (range : ℕ) (old new : Seat) → range < length c.seats → old ≡ get_or c.seats range old → TurnsQuietly at_replica.Tick c.ticks (status_of old) (status_of new) → node_of (record c { seats = slice_set c.seats range new }) ≡ live_turn at_replica.Tick (node_of c) range (seat (node_of c) range)
counted_at c range old new within is turns =
    with_status c range new
    ∙ quiet_turn (node_of c) range (status_of old) (status_of new) here turns
    ∙ ap (λ (s : Status). live_turn at_replica.Tick (node_of c) range s) (sym here)
  where
    here : seat (node_of c) range ≡ status_of old
    here = seat_of c.seats range within ∙ ap status_of (seat_is c.seats range old within is)

-- a message is heard at one seat of a node
pub heard_node : (c : Core) (logs : Logs) (from range i : ℕ) (m : Message AppliedState) (old new : Seat) → i ≡ range → i < length c.seats → old ≡ get_or c.seats i old → AreAlike c.logs logs → is_absent old ≡ false → TurnsQuietly (at_replica.Deliver from m) c.ticks (status_of old) (status_of new) → node_of (record c { seats = slice_set c.seats i new; logs = logs }) ≡ delivered (node_of c) from range m (seat (node_of c) range)
heard_node c logs from range i m old new at within is alike there turns =
    alike_node (record c { seats = slice_set c.seats i new }) logs alike
    ∙ with_status c i new
    ∙ ap (λ (k : ℕ). with_seat (node_of c) k (status_of new)) at
    ∙ quiet_delivery (node_of c) from range m old (status_of new) here there turns
    ∙ ap (λ (s : Status). delivered (node_of c) from range m s) (sym here)
  where
    here : seat (node_of c) range ≡ status_of old
    here = subst (λ (k : ℕ). slice_index_or (map status_of c.seats) k Absent ≡ status_of old) at (seat_of c.seats i within ∙ ap status_of (seat_is c.seats i old within is))

-- what a message asks of a replica does not hang on the time
pub any_ticks : (s : Status) (from : ℕ) (m : Message AppliedState) (ticks : ℕ) → SeatAllows s (at_replica.Deliver from m) ticks → SeatAllows s (at_replica.Deliver from m) 0
any_ticks Absent from m ticks allows = tt
any_ticks (Live r) from m ticks allows = allows
any_ticks (Removed applied) from m ticks allows = tt

-- the seats before this number only count
abbrev pub OnlySoFar : (ticks : ℕ) (list : List Seat) (number : ℕ) → Type 0
OnlySoFar ticks list number = (range : ℕ) → range < number → IsTrue (only_counts_in ticks (status_of (seat_in list range)))

pub only_more : (ticks : ℕ) (list : List Seat) (number : ℕ) (here : Seat) → seat_in list number ≡ here → IsTrue (only_counts_in ticks (status_of here)) → OnlySoFar ticks list number → OnlySoFar ticks list (number + 1)
only_more ticks list number here is only so_far = λ (range : ℕ) (less : range < number + 1). below_more (λ (k : ℕ). IsTrue (only_counts_in ticks (status_of (seat_in list k)))) number so_far (subst (λ (s : Seat). IsTrue (only_counts_in ticks (status_of s))) (sym is) only) range less

-- the seats from this number on still count, and the turns that are left lead from here where all led
-- from the start
pub record CountsLeft (start : Core) (number : ℕ) (now : Core) : Type 0 where
  pub many : number ≤ 8
  pub logs : now.logs ≡ start.logs
  pub each : (range : ℕ) → number ≤ range → range < 8 → IsTrue (only_counts_in now.ticks (status_of (seat_in now.seats range)))
  pub turns : all_turns at_replica.Tick (node_of now) (drop number range_numbers) ≡ all_turns at_replica.Tick (node_of start) range_numbers

pub counts_begin : (start : Core) → ((range : ℕ) → range < 8 → IsTrue (only_counts_in start.ticks (status_of (seat_in start.seats range)))) → CountsLeft start 0 start
counts_begin start each = record { many = omega arith; logs = refl; each = λ (range : ℕ) (from : 0 ≤ range) (within : range < 8). each range within; turns = refl }

pub counts_more : (start : Core) (number : ℕ) (now new : Core) → CountsLeft start number now → number < 8 → node_of new ≡ live_turn at_replica.Tick (node_of now) number (seat (node_of now) number) → ((k : ℕ) → ¬ (k ≡ number) → seat_in new.seats k ≡ seat_in now.seats k) → new.ticks ≡ now.ticks → new.logs ≡ now.logs → CountsLeft start (number + 1) new
counts_more start number now new left within turn others ticks logs = record {
  many = omega (arith, within);
  logs = logs ∙ left.logs;
  each = λ (range : ℕ) (from : number + 1 ≤ range) (below : range < 8).
      subst (λ (s : Seat). IsTrue (only_counts_in new.ticks (status_of s))) (sym (others range (λ (same : range ≡ number). omega arith)))
      (subst (λ (t : ℕ). IsTrue (only_counts_in t (status_of (seat_in now.seats range)))) (sym ticks) (left.each range (omega arith) below));
  turns = ap (λ (n : Node). all_turns at_replica.Tick n (drop (number + 1) range_numbers)) turn
      ∙ ap (λ (l : List ℕ). all_turns at_replica.Tick (node_of now) l) (sym (next_number number within))
      ∙ left.turns;
}

pub counts_end : (start : Core) (number : ℕ) (now : Core) → CountsLeft start number now → number ≡ 8 → node_of now ≡ all_turns at_replica.Tick (node_of start) range_numbers
counts_end start number now left all = ap (λ (k : ℕ). all_turns at_replica.Tick (node_of now) (drop k range_numbers)) (sym all) ∙ left.turns

-- the counted tick is written down
pub counted_node : (old start after : Core) (logs : Logs) (ticks : ℕ) → AreAlike old.logs start.logs → start ≡ record old { logs = start.logs; ticks = ticks } → node_of after ≡ all_turns at_replica.Tick (node_of start) range_numbers → logs.journal.list ≡ after.logs.journal.list ++ record { event = past.Tick; answer = answers.Done } ∷ [] → logs.sent ≡ after.logs.sent → logs.outcomes ≡ after.logs.outcomes → logs.requests ≡ after.logs.requests → answered (node_of (record after { logs = logs })) answers.Done ≡ written past.Tick (done (all_turns at_replica.Tick (with_ticks (node_of old) ticks) range_numbers))
counted_node old start after logs ticks alike is turns journal sent outcomes requests =
    written_node after logs past.Tick answers.Done journal sent outcomes requests
    ∙ ap (λ (n : Node). written past.Tick (answered n answers.Done)) (turns ∙ ap (λ (n : Node). all_turns at_replica.Tick n range_numbers)
    (ap node_of is ∙ ap (λ (n : Node). with_ticks n ticks) (alike_node old start.logs alike)))
