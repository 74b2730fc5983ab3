-- The rounds of a node, as its journal has them: which event may come next in a race (this project). Between two rounds
-- there are admissions alone. A round is some deliveries, ascending by sender and number; a tick; for each live range,
-- ascending, a collect and a flush; in every sixteenth round the node's next handover, if there is one left; for each
-- range, ascending, an application of each entry that waits; and the round's end.
use Rattle.std.specs.Prelude.{ℕ, ◌+◌, ◌%◌, Bool, true, false, not, ◌&&◌, ◌==◌, nat_lt, nat_le, if◌then◌else◌, List, fold, count_by, slice_get, Option, None, Some, is_some}
use Rattle.std.specs.Option.{option_map_or}
use Rattle.std.specs.List.{filter, find}
use Rattle.rp_events.specs.declared.journals.JournalEntry.{JournalEntry}
use Rattle.rp_events.specs.declared.journals.PastEvent.{PastEvent}
use Rattle.rp_events.specs.declared.journals.PastEvent.TheVariants.{Admit, Ask, Transfer, Collect, Flush, Tick, Deliver, Apply, Cut, Remove, Peek, Restart, Round}
use Rattle.rp_events.specs.Buffered.{is_live}
use Rattle.rp_events.specs.Nodes.{Node, Status, Absent, Live, Removed, seat, range_numbers}
use Rattle.rp_race.specs.declared.rules.Handover.{Handover}
use Rattle.rp_race.specs.declared.rules.RaceRules.{RaceRules}

-- how far a node's round has come: none has begun; the last message came from this node; behind the tick so many ranges
-- were flushed; besides these this range was collected; entries are being applied; it was broken off
pub data Stage : Type 0 where
  between : Stage
  delivering : (from : ℕ) → Stage
  flushing : (ranges : ℕ) → Stage
  collected : (ranges range : ℕ) → Stage
  applying : Stage
  broken : Stage

-- behind an admission a round that had begun goes on no more
abbrev pub interrupted : Stage → Stage
interrupted between = between
interrupted _ = broken

abbrev pub collecting : (range : ℕ) → Stage → Stage
collecting range (flushing ranges) = collected ranges range
collecting range _ = broken

abbrev pub flushed : Stage → Stage
flushed (collected ranges range) = flushing (ranges + 1)
flushed _ = broken

-- how far it has come behind an event
abbrev pub stage_after : Stage → PastEvent → Stage
stage_after s (Admit range id place) = interrupted s
stage_after s (Deliver from number) = delivering from
stage_after s Tick = flushing 0
stage_after s (Collect range taken) = collecting range s
stage_after s (Flush range) = flushed s
stage_after s (Transfer range to) = applying
stage_after s (Apply range) = applying
stage_after s (Round sent) = between
stage_after s (Ask range) = broken
stage_after s (Cut range) = broken
stage_after s (Remove range) = broken
stage_after s (Peek range key) = broken
stage_after s Restart = broken

-- how far a node's round has come, by its journal
abbrev pub stage_of : List JournalEntry → Stage
stage_of journal = fold (λ s e. stage_after s e.event) between journal

-- the ranges of which the node has a live replica, ascending
abbrev pub live_ranges : Node → List ℕ
live_ranges n = filter (λ range. is_live (seat n range)) range_numbers

-- an entry is committed and not applied
abbrev pub waits : Status → Bool
waits Absent = false
waits (Live r) = nat_lt r.applied.index r.raft.head.commit
waits (Removed applied) = false

-- the first range in which an entry waits
abbrev pub first_waiting : Node → Option ℕ
first_waiting n = find (λ range. waits (seat n range)) range_numbers

-- the handovers of a node, and how many of them its journal has
abbrev pub handovers_of : RaceRules → (node : ℕ) → List Handover
handovers_of rules node = filter (λ h. h.node == node) rules.transfers

abbrev pub is_transfer : PastEvent → Bool
is_transfer (Transfer range to) = true
is_transfer _ = false

abbrev pub handed_over : List JournalEntry → ℕ
handed_over journal = count_by (λ e. is_transfer e.event) journal

-- the handover that is due in this round: the next one of the node, in every sixteenth round
abbrev pub due_handover : RaceRules → Node → Option Handover
due_handover rules n =
    if (n.rounds + 1) % 16 == 0
    then slice_get (handovers_of rules n.node) (handed_over n.journal)
    else None

abbrev pub is_number : ℕ → Option ℕ → Bool
is_number k found = option_map_or (λ i. i == k) found false

abbrev pub is_handover : (range to : ℕ) → Option Handover → Bool
is_handover range to due = option_map_or (λ h. h.range == range && h.to == to) due false

-- all live ranges were flushed in this round
abbrev pub all_flushed : Node → (ranges : ℕ) → Bool
all_flushed n ranges = not (is_some (slice_get (live_ranges n) ranges))

-- the part of the round before the applications is done
abbrev pub may_apply : RaceRules → Node → Stage → Bool
may_apply rules n (flushing ranges) = all_flushed n ranges && not (is_some (due_handover rules n))
may_apply rules n applying = true
may_apply rules n _ = false

abbrev pub may_deliver : (from : ℕ) → Stage → Bool
may_deliver from between = true
may_deliver from (delivering last) = nat_le last from
may_deliver from _ = false

abbrev pub may_tick : Stage → Bool
may_tick between = true
may_tick (delivering last) = true
may_tick _ = false

abbrev pub may_collect : Node → (range : ℕ) → Stage → Bool
may_collect n range (flushing ranges) = is_number range (slice_get (live_ranges n) ranges)
may_collect n range _ = false

abbrev pub may_flush : (range : ℕ) → Stage → Bool
may_flush range (collected ranges last) = last == range
may_flush range _ = false

abbrev pub may_transfer : RaceRules → Node → (range to : ℕ) → Stage → Bool
may_transfer rules n range to (flushing ranges) =
    all_flushed n ranges && is_handover range to (due_handover rules n)
may_transfer rules n range to _ = false

-- the event may come at a node whose round has come so far; an admission at any time
abbrev pub may_follow : RaceRules → Node → Stage → PastEvent → Bool
may_follow rules n s (Admit range id place) = true
may_follow rules n s (Deliver from number) = may_deliver from s
may_follow rules n s Tick = may_tick s
may_follow rules n s (Collect range taken) = may_collect n range s
may_follow rules n s (Flush range) = may_flush range s
may_follow rules n s (Transfer range to) = may_transfer rules n range to s
may_follow rules n s (Apply range) = may_apply rules n s && is_number range (first_waiting n)
may_follow rules n s (Round sent) = may_apply rules n s && not (is_some (first_waiting n))
may_follow rules n s (Ask range) = false
may_follow rules n s (Cut range) = false
may_follow rules n s (Remove range) = false
may_follow rules n s (Peek range key) = false
may_follow rules n s Restart = false

-- the event may come next at the node
abbrev pub may_come : RaceRules → Node → PastEvent → Bool
may_come rules n e = may_follow rules n (stage_of n.journal) e
