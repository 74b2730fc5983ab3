-- How long the lists of a node can be: each event adds a little (this project).
use Rattle.std.specs.Prelude.{◌≡◌, ℕ, ◌+◌, ◌*◌, ◌^◌, ◌≤◌, Bool, true, false, not, ◌==◌, if◌then◌else◌, List, [], ◌∷◌, length, count_by, sum_by, Option, None, Some}
use Rattle.std.specs.Option.{option_map_or}
use Rattle.rp_base.specs.declared.items.Item.{Item}
use Rattle.rp_request.specs.Applied.{AppliedState}
use Rattle.rp_events.specs.declared.journals.PastEvent.{PastEvent}
use Rattle.rp_events.specs.declared.journals.PastEvent.TheVariants as past
use Rattle.rp_events.specs.declared.node_events.Event.{Event}
use Rattle.rp_events.specs.declared.node_events.Event.TheVariants as events
use Rattle.rp_events.specs.declared.replica_events.ReplicaEvent.{ReplicaEvent}
use Rattle.rp_events.specs.declared.replica_events.ReplicaEvent.TheVariants as at_replica
use Rattle.rp_events.specs.ReplicaEvents.{event}
use Rattle.rp_events.specs.Nodes.{Node, Status, Absent, Live, Removed, seat, journal_end}
use Rattle.rp_events.specs.Worlds.{World, Scene, Schedule, node_of, event_of, taken_in, happens}
use Rattle.rp_journals.specs.Ended.{pending_at}

-- the inbox of a seat
abbrev pub inbox_at : Status → List Item
inbox_at Absent = []
inbox_at (Live r) = r.inbox
inbox_at (Removed applied) = []

-- an entry of a journal is an admission, be it granted or refused
abbrev pub is_admission : PastEvent → Bool
is_admission (past.Admit range id place) = true
is_admission _ = false

-- how many admissions a node was asked for, and how many other events it had
abbrev pub admissions : Node → ℕ
admissions n = count_by (λ e. is_admission e.event) n.journal

abbrev pub other_events : Node → ℕ
other_events n = count_by (λ e. not (is_admission e.event)) n.journal

-- what is pending at a node, in all its ranges
abbrev pub all_pending : Node → ℕ
all_pending n = sum_by (λ status. length (pending_at status)) n.seats

-- a node's numbers stay within its journal: each list and each count grows by an event at most by
-- one
pub record IsWithin (n : Node) : Type 0 where
  pub events : length n.journal ≡ admissions n + other_events n
  pub requests : length n.requests ≤ admissions n
  pub pending : length n.outcomes + all_pending n ≤ admissions n
  pub ticks : n.ticks ≤ other_events n
  pub rounds : n.rounds ≤ other_events n
  pub waited : n.waited ≤ n.rounds

-- what an event is to the replica of a range
abbrev pub at_range : (range : ℕ) → Event AppliedState → Option (ReplicaEvent AppliedState)
at_range range (events.Admit at id request) =
    if at == range then Some (at_replica.Admit id request) else None
at_range range (events.Ask at) = if at == range then Some at_replica.Ask else None
at_range range (events.Transfer at to) = if at == range then Some (at_replica.Transfer to) else None
at_range range (events.Collect at) = if at == range then Some at_replica.Collect else None
at_range range (events.Flush at) = if at == range then Some at_replica.Flush else None
at_range range events.Tick = Some at_replica.Tick
at_range range (events.Deliver from at number message) =
    if at == range then Some (at_replica.Deliver from message) else None
at_range range (events.Apply at) = if at == range then Some at_replica.Apply else None
at_range range (events.Cut at) = if at == range then Some at_replica.Cut else None
at_range range (events.Remove at) = if at == range then Some at_replica.Remove else None
at_range range (events.Peek at key) = if at == range then Some (at_replica.Peek key) else None
at_range range events.Restart = Some at_replica.Restart
at_range range events.Round = None

-- the node's tick in an event
abbrev pub tick_in : Node → Event AppliedState → ℕ
tick_in n events.Tick = n.ticks + 1
tick_in n _ = n.ticks

-- the payloads that a seat hands to Raft in an event
abbrev pub handed_by : Status → (ticks rounds : ℕ) → List Item → ReplicaEvent AppliedState
    → List (List ℕ)
handed_by Absent ticks rounds taken e = []
handed_by (Live r) ticks rounds taken e = (event r e ticks rounds taken).proposed
handed_by (Removed applied) ticks rounds taken e = []

-- what the buffer gave to a collect
abbrev pub given_to : Event AppliedState → List Item → List Item
given_to (events.Collect at) taken = taken
given_to _ taken = []

abbrev pub handed : (range : ℕ) → Node → Event AppliedState → List Item → List (List ℕ)
handed range n e taken =
    option_map_or (handed_by (seat n range) (tick_in n e) n.rounds (given_to e taken))
    (at_range range e) []

-- what the range's replica at the scene's node hands to Raft in it, and what that of one node hands
-- to it along a schedule
abbrev pub handed_here : (range : ℕ) → World → Scene → Node → ℕ
handed_here range w x n =
    option_map_or (λ e. length (handed range n e (taken_in x.what))) (event_of w x.what) 0

abbrev pub handed_in : (range : ℕ) → World → Scene → ℕ
handed_in range w x = option_map_or (handed_here range w x) (node_of w x.node) 0

abbrev pub handed_along : (range node : ℕ) → World → Schedule → ℕ
handed_along range node w [] = 0
handed_along range node w (x ∷ xs) =
    (if x.node == node then handed_in range w x else 0) + handed_along range node (happens w x) xs

-- what a range's replica at this node has handed to Raft, and what waits in its inbox
pub record IsHandedFew (range node : ℕ) (n : Node) (so_far : ℕ) : Type 0 where
  pub few : so_far + length (inbox_at (seat n range)) ≤ other_events n * (admissions n + 16)

-- a journal has its end, and so has what a range's replica hands to Raft and what waits in its
-- inbox: of five nodes it is less than 2^63
pub record IsLow (n : Node) : Type 0 where
  pub journal : length n.journal ≤ journal_end
  pub product : other_events n * (admissions n + 16) ≤ 2 ^ 60 + 2 ^ 35
