-- A client's tries: which one may come next, and what it knows of each command (this project).
use Rattle.std.specs.Prelude.{◌≡◌, ℕ, ◌+◌, ◌-◌, ◌<◌, min, Bool, true, false, ◌&&◌, nat_lt, if◌then◌else◌, List, [], ◌∷◌, map, slice_get, All, Option, None, Some}
use Rattle.rp_base.specs.Ids.{same_id}
use Rattle.rp_base.specs.declared.ids.CmdId.{CmdId}
use Rattle.rp_request.specs.declared.requests.Request.{Request}
use Rattle.rp_request.specs.declared.requests.Request.TheVariants.{Put, Add, CPut, Del, Wipe, Move, Split}
use Rattle.rp_request.specs.declared.outcomes.Outcome.{Outcome}
use Rattle.rp_request.specs.declared.outcomes.Outcome.TheVariants.{Success, Refused, Ambiguous, Pending}
use Rattle.rp_request.specs.declared.outcomes.Refusal.{Refusal}
use Rattle.rp_request.specs.declared.outcomes.Refusal.TheVariants.{NoReplica, NotLeaseHolder, RangeMismatch, Latched, ConditionFailed, IsText, Overflow, Short, TooWide, NotInside, SplitLimit}
use Rattle.rp_router.specs.Hints.{Known, started, learnt, aimed_node, aimed_range}

-- one try: its id, the node that was asked and the range that was named, how many rounds the node
-- had, and how the try ended as far as the client learnt
pub record Try : Type 0 where
  pub id : CmdId
  pub node : ℕ
  pub range : ℕ
  pub rounds : ℕ
  pub end : Option Outcome

-- how often a command may be tried
abbrev pub most_tries : ℕ
most_tries = 4096

-- refusals after which a command is tried again: those that say where it stands, or that it waits
abbrev pub tries_again : Refusal → Bool
tries_again NoReplica = true
tries_again (NotLeaseHolder lease) = true
tries_again (RangeMismatch desc) = true
tries_again (Latched by held) = true
tries_again (ConditionFailed actual) = false
tries_again (IsText key) = false
tries_again (Overflow actual) = false
tries_again (Short actual) = false
tries_again (TooWide count) = false
tries_again NotInside = false
tries_again (SplitLimit level) = false

-- the ids of a client's commands: numbered from 1, and so are the attempts of each
abbrev pub id_of : (client seq attempt : ℕ) → CmdId
id_of client seq attempt = record { client = client; seq = seq; attempt = attempt }

-- the next attempt of this one's command, and the first of the next command
abbrev pub attempt_after : CmdId → CmdId
attempt_after id = id_of id.client id.seq (id.attempt + 1)

abbrev pub command_after : CmdId → CmdId
command_after id = id_of id.client (id.seq + 1) 1

-- after a try that was refused: the command is tried again, up to its last try, else it has ended
abbrev pub id_after_refusal : CmdId → Refusal → CmdId
id_after_refusal id refusal =
    if tries_again refusal && nat_lt id.attempt most_tries then attempt_after id else command_after id

-- after a try whose end the client learnt, the id of the next one; no try may come before that
abbrev pub id_after : CmdId → Option Outcome → Option CmdId
id_after id None = None
id_after id (Some Pending) = None
id_after id (Some (Refused refusal)) = Some (id_after_refusal id refusal)
id_after id (Some (Success reply)) = Some (command_after id)
id_after id (Some (Ambiguous why)) = Some (command_after id)

-- the id of the try that may come after these, of which the latest stands first
abbrev pub next_id : (client : ℕ) → List Try → Option CmdId
next_id client [] = Some (id_of client 1 1)
next_id client (t ∷ older) = id_after t.id t.end

-- what the client knows of ranges and nodes: it learns from each refusal, in order
abbrev pub hints_after : Known → Try → Option Outcome → Known
hints_after k t None = k
hints_after k t (Some (Refused refusal)) = learnt k t.node t.range refusal
hints_after k t (Some (Success reply)) = k
hints_after k t (Some (Ambiguous why)) = k
hints_after k t (Some Pending) = k

abbrev pub hints_of : (nodes : ℕ) → List Try → Known
hints_of nodes [] = started nodes
hints_of nodes (t ∷ older) = hints_after (hints_of nodes older) t t.end

-- a request is sent where its first key is served
abbrev pub first_key : Request → ℕ
first_key (Put key value) = key
first_key (Add key by) = key
first_key (CPut key expect value) = key
first_key (Del key) = key
first_key (Wipe span) = span.start
first_key (Move from to by) = from
first_key (Split key) = key

-- the units of the quota that a request takes, never more than there are
abbrev pub weight_of : Request → ℕ
weight_of (Put key value) = 1
weight_of (Add key by) = 1
weight_of (CPut key expect value) = 1
weight_of (Del key) = 1
weight_of (Wipe span) = 16
weight_of (Move from to by) = 2
weight_of (Split key) = 1

abbrev pub units_of : (capacity : ℕ) → Request → ℕ
units_of capacity request = min capacity (weight_of request)

-- a try may come next: of this id and request, at the node and in the range that are aimed at
pub record MayCome (client nodes : ℕ) (requests : List Request) (tries : List Try)
    (node range : ℕ) (id : CmdId) (request : Request) : Type 0 where
  pub next : next_id client tries ≡ Some id
  pub asked : slice_get requests (id.seq - 1) ≡ Some request
  pub at_node : node ≡ aimed_node (hints_of nodes tries) (first_key request)
  pub in_range : range ≡ aimed_range (hints_of nodes tries) (first_key request)

-- each earlier try of this command at that node came when the node had fewer rounds
abbrev pub GoneOn : (seq node rounds : ℕ) → List Try → Type 0
GoneOn seq node rounds tries =
    All (λ (t : Try). t.id.seq ≡ seq → t.node ≡ node → t.rounds < rounds) tries

-- the try of this id, where its end is not learnt yet, ended so
abbrev pub ended_so : CmdId → Outcome → Try → Option Outcome → Try
ended_so id outcome t None = if same_id t.id id then record t { end = Some outcome } else t
ended_so id outcome t (Some known) = t

abbrev pub learns : CmdId → Outcome → List Try → List Try
learns id outcome tries = map (λ t. ended_so id outcome t t.end) tries
