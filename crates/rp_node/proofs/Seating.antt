-- What a node is once one of its seats or its lists has changed.
use Rattle.std.proofs.Common.{◌≡◌, ◌<◌, ℕ, true, false, List, length, map, get_or, slice_index_or, slice_set, Some, refl, sym, ap, subst, ◌∙◌}
use Rattle.std.proofs.lemmas.List.{map-set, get_or-map, get_or_default}
use Rattle.std.proofs.Math.Seq.{map-set_same}
use Rattle.rp_request.specs.Applied.{AppliedState}
use Rattle.rp_events.specs.Nodes.{Node, Status, Absent, Live, seat, with_seat, opened, opened_by, right_base, right_base_term}
use Rattle.rp_events.specs.Replicas.{started}
use Rattle.rp_replica.specs.Rooms as rooms
use Rattle.rp_node.specs.declared.cores.Core.{Core}
use Rattle.rp_node.specs.declared.logs.Logs.{Logs}
use Rattle.rp_node.specs.declared.seats.Seat.{Seat}
use Rattle.rp_node.specs.declared.seats.Seat.TheVariants as seats
use Rattle.rp_node.specs.Plans.{taken_down, taken_down_in}
use Rattle.rp_node.specs.Cores.{status_of, seat_in, node_of, is_absent, AreAlike}

-- a seat is kept, room aside
pub kept_node : (c : Core) (i : ℕ) (old new : Seat) → old ≡ get_or c.seats i old → status_of new ≡ status_of old → node_of (record c { seats = slice_set c.seats i new }) ≡ node_of c
kept_node c i old new is same =
    ap (λ (l : List Status). record (node_of c) { seats = l }) (map-set_same status_of c.seats i new old (same ∙ ap status_of is))

-- so are the lists
pub alike_node : (c : Core) (logs : Logs) → AreAlike c.logs logs → node_of (record c { logs = logs }) ≡ node_of c
alike_node c logs a = rw (a.sent, a.journal, a.requests, a.outcomes) refl

pub prepared_node : (c : Core) (i : ℕ) (old new : Seat) (logs : Logs) → old ≡ get_or c.seats i old → status_of new ≡ status_of old → AreAlike c.logs logs → node_of (record c { seats = slice_set c.seats i new; logs = logs }) ≡ node_of c
prepared_node c i old new logs is same a =
    alike_node (record c { seats = slice_set c.seats i new }) logs a ∙ kept_node c i old new is same

-- the seat of a range, at any default
pub seat_is : (xs : List Seat) (i : ℕ) (old : Seat) → i < length xs → old ≡ get_or xs i old → seat_in xs i ≡ old
seat_is xs i old within is = get_or_default xs i seats.Absent old within ∙ sym is

-- and as the node's definitions see it
pub seat_of : (xs : List Seat) (i : ℕ) → i < length xs → slice_index_or (map status_of xs) i Absent ≡ status_of (seat_in xs i)
seat_of xs i within = get_or-map status_of xs i seats.Absent Absent within

-- a seat changes
pub with_status : (c : Core) (i : ℕ) (new : Seat) → node_of (record c { seats = slice_set c.seats i new }) ≡ with_seat (node_of c) i (status_of new)
with_status c i new = ap (λ (l : List Status). record (node_of c) { seats = l }) (map-set status_of c.seats i new)

absent_status : (s : Seat) → is_absent s ≡ true → status_of s ≡ Absent
absent_status seats.Absent e = refl
absent_status (seats.Live held) e = absurd cc
absent_status (seats.Removed kept) e = absurd cc

-- the right range's replica starts where there is nothing
pub opened_node : (c : Core) (right : AppliedState) (i : ℕ) (old : Seat) (held : rooms.Held) → i ≡ right.desc.id → i < length c.seats → old ≡ get_or c.seats i old → is_absent old ≡ true → held.replica ≡ started c.node c.nodes right.lease.holder right_base right_base_term right → node_of (record c { seats = slice_set c.seats i (seats.Live held) }) ≡ opened (node_of c) (Some right)
opened_node c right i old held at within is empty starts =
    with_status c i (seats.Live held)
    ∙ ap (λ (s : Status). with_seat (node_of c) i s) (ap Live starts)
    ∙ ap (λ (k : ℕ). with_seat (node_of c) k (Live (started c.node c.nodes right.lease.holder right_base right_base_term right))) at
    ∙ ap (λ (s : Status). opened_by (node_of c) right s) (sym here)
  where
    here : seat (node_of c) right.desc.id ≡ Absent
    here = subst (λ (k : ℕ). slice_index_or (map status_of c.seats) k Absent ≡ Absent) at
        (seat_of c.seats i within ∙ ap status_of (seat_is c.seats i old within is) ∙ absent_status old empty)

not_absent : (n : Node) (right : AppliedState) (s : Seat) → is_absent s ≡ false → opened_by n right (status_of s) ≡ n
not_absent n right seats.Absent e = absurd cc
not_absent n right (seats.Live held) e = refl
not_absent n right (seats.Removed kept) e = refl

-- and nowhere else
pub kept_closed : (c : Core) (right : AppliedState) (i : ℕ) (old : Seat) → i ≡ right.desc.id → i < length c.seats → old ≡ get_or c.seats i old → is_absent old ≡ false → node_of c ≡ opened (node_of c) (Some right)
kept_closed c right i old at within is there =
    sym (not_absent (node_of c) right old there)
    ∙ ap (λ (s : Status). opened_by (node_of c) right s) (sym here)
  where
    here : seat (node_of c) right.desc.id ≡ status_of old
    here = subst (λ (k : ℕ). slice_index_or (map status_of c.seats) k Absent ≡ status_of old) at
        (seat_of c.seats i within ∙ ap status_of (seat_is c.seats i old within is))

-- a replica in a seat becomes a tombstone
pub down_node : (c : Core) (range i : ℕ) (old new : Seat) → i ≡ range → i < length c.seats → old ≡ get_or c.seats i old → status_of new ≡ taken_down (status_of old) → node_of (record c { seats = slice_set c.seats i new }) ≡ taken_down_in (node_of c) range
down_node c range i old new at within is same =
    with_status c i new
    ∙ ap (λ (s : Status). with_seat (node_of c) i s) (same ∙ ap taken_down (sym (seat_of c.seats i within ∙ ap status_of (seat_is c.seats i old within is))))
    ∙ ap (λ (k : ℕ). taken_down_in (node_of c) k) at
