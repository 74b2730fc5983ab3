-- What may happen to a node while it is away from the others, so that the race stays one (this project).
use Rattle.std.specs.Prelude.{◌≡◌, ◌≢◌, ℕ, ◌+◌, ◌≤◌, Bool, true, false, ◌==◌, if◌then◌else◌, List, [], ◌∷◌, length, Option, None, Some}
use Rattle.rp_base.specs.declared.ids.CmdId.{CmdId}
use Rattle.rp_request.specs.Fits.{FitsId, FitsRequest}
use Rattle.rp_request.specs.declared.outcomes.Outcome.{Outcome}
use Rattle.rp_request.specs.declared.outcomes.Outcome.TheVariants.{Refused}
use Rattle.rp_request.specs.declared.requests.Request.{Request}
use Rattle.rp_events.specs.declared.answers.EventAnswer.{EventAnswer}
use Rattle.rp_events.specs.declared.answers.EventAnswer.TheVariants as answers
use Rattle.rp_events.specs.declared.journals.PastEvent.{PastEvent}
use Rattle.rp_events.specs.declared.journals.PastEvent.TheVariants as past
use Rattle.rp_events.specs.declared.node_events.Event.TheVariants as events
use Rattle.rp_events.specs.Lawful.{AllLawful, IsReached, IsLater}
use Rattle.rp_events.specs.Nodes.{Node, is_full}
use Rattle.rp_events.specs.NodeEvents.{step}
use Rattle.rp_events.specs.Worlds.{World, Happening, Admit, Ask, Transfer, Collect, Flush, Tick, Deliver, Apply, Cut, Remove, Peek, Restart, Round, node_of, sent_by, happens, run}
use Rattle.rp_journals.specs.Asked.{all_at, AskedNowhereElse}
use Rattle.rp_journals.specs.Elsewhere.{IsAhead}
use Rattle.rp_journals.specs.Entries.{at_node}
use Rattle.rp_journals.specs.Growth.{Begins}
use Rattle.rp_clients.specs.Tries.{Try, MayCome}
use Rattle.rp_race.specs.declared.rules.RaceRules.{RaceRules}
use Rattle.rp_race.specs.Rounds.{between, stage_of, handed_over, may_come}
use Rattle.rp_race.specs.Owed.{heard_from, carried}
use Rattle.rp_race.specs.Played.{requests_of, HasRoundSince, IsTriesOf}
use Rattle.rp_race.specs.Race.{IsRace}

-- the end that a client learns at an admission
abbrev pub end_by : EventAnswer → Option Outcome
end_by (answers.Refused refusal) = Some (Refused refusal)
end_by _ = None

-- the node after an admission
abbrev pub after_admission : Node → (range : ℕ) → CmdId → Request → Node
after_admission n range id request = (step n (events.Admit range id request) []).node

-- the try that an admission at the node is
abbrev pub try_at : (node : ℕ) → Node → (range : ℕ) → CmdId → Request → Try
try_at node n range id request = record {
  id = id;
  node = node;
  range = range;
  rounds = n.rounds;
  end = end_by (step n (events.Admit range id request) []).answer;
}

-- what each client has tried, and with a further try of one of them
abbrev pub Tried : Type 0
Tried = (client : ℕ) → List Try

abbrev pub with_try : Tried → Try → Tried
with_try tries t = λ client. if client == t.id.client then t ∷ tries client else tries client

-- an admission at the node is the next try of its client, in a round of its own; its numbers have the widths of their
-- types, and the node is not full
pub record MayTry (rules : RaceRules) (nodes node : ℕ) (n : Node) (tries : Tried) (range : ℕ)
    (id : CmdId) (request : Request) : Type 0 where
  pub may : MayCome id.client nodes (requests_of rules id.client) (tries id.client) node range id request
  pub since : HasRoundSince node n.rounds id (tries id.client)
  pub id_fits : FitsId id
  pub request_fits : FitsRequest request
  pub room : is_full n ≡ false

-- what happens are admissions alone, each of which may come
abbrev pub AllMayTry : RaceRules → (nodes node : ℕ) → Node → Tried → List Happening → Type 0
AllMayTry rules nodes node n tries [] = Unit {0}
AllMayTry rules nodes node n tries (Admit range id request ∷ xs) =
    MayTry rules nodes node n tries range id request
    × AllMayTry rules nodes node (after_admission n range id request)
    (with_try tries (try_at node n range id request)) xs
AllMayTry rules nodes node n tries (x ∷ xs) = ⊥

-- what the clients have tried after these
abbrev pub tried_after : (node : ℕ) → Node → Tried → List Happening → Tried
tried_after node n tries [] = tries
tried_after node n tries (Admit range id request ∷ xs) =
    tried_after node (after_admission n range id request)
    (with_try tries (try_at node n range id request)) xs
tried_after node n tries (x ∷ xs) = tried_after node n tries xs

-- the node after these
abbrev pub admitted_after : Node → List Happening → Node
admitted_after n [] = n
admitted_after n (Admit range id request ∷ xs) = admitted_after (after_admission n range id request) xs
admitted_after n (x ∷ xs) = admitted_after n xs

-- how the journal of a node keeps what happens
abbrev pub kept_as : Node → Happening → PastEvent
kept_as n (Admit range id request) = past.Admit range id (length n.requests)
kept_as n (Ask range) = past.Ask range
kept_as n (Transfer range to) = past.Transfer range to
kept_as n (Collect range taken) = past.Collect range taken
kept_as n (Flush range) = past.Flush range
kept_as n Tick = past.Tick
kept_as n (Deliver from number) = past.Deliver from number
kept_as n (Apply range) = past.Apply range
kept_as n (Cut range) = past.Cut range
kept_as n (Remove range) = past.Remove range
kept_as n (Peek range key) = past.Peek range key
kept_as n Restart = past.Restart
kept_as n Round = past.Round (length n.sent)

-- it is of the inside of a round
abbrev pub is_within_round : Happening → Bool
is_within_round (Admit range id request) = false
is_within_round Round = false
is_within_round _ = true

-- the first of these may come next at the node, in a world in which they happen to it, and so may each of the others then
pub record MayHappen (rules : RaceRules) (node : ℕ) (v : World) (x : Happening) : Type 0 where
  pub n : Node
  pub has : node_of v node ≡ Some n
  pub within : is_within_round x ≡ true
  pub may : may_come rules n (kept_as n x) ≡ true

abbrev pub AllMayHappen : RaceRules → (node : ℕ) → World → List Happening → Type 0
AllMayHappen rules node v [] = Unit {0}
AllMayHappen rules node v (x ∷ xs) =
    MayHappen rules node v x × AllMayHappen rules node (happens v (at_node node x)) xs

-- what has happened at the node so far, in this world, is of the inside of a round, and leaves this node
pub record IsSoFar (rules : RaceRules) (node : ℕ) (v : World) (xs : List Happening) (n : Node)
    : Type 0 where
  pub lawful : AllLawful v (all_at node xs)
  pub order : AllMayHappen rules node v xs
  pub leaves : node_of (run v (all_at node xs)) node ≡ Some n

-- since it was this node there were admissions alone: it has heard the same, has had as many rounds and handovers, and is
-- between two rounds where it was
pub record OnlyAdmitted (before n : Node) : Type 0 where
  pub heard : (from : ℕ) → heard_from from n.journal ≡ heard_from from before.journal
  pub rounds : n.rounds ≡ before.rounds
  pub handed : handed_over n.journal ≡ handed_over before.journal
  pub stage : stage_of before.journal ≡ between → stage_of n.journal ≡ between

-- a node as it was seen at some time
pub record WasSeen (nodes : ℕ) (w : World) (node : ℕ) (n : Node) : Type 0 where
  pub before : World
  pub reached : IsReached nodes before
  pub later : IsLater before w
  pub has : node_of before node ≡ Some n

-- so many nodes, each as it was seen at some time
pub record AllSeen (nodes : ℕ) (seen w : World) : Type 0 where
  pub size : length seen ≡ nodes
  pub each : (node : ℕ) (n : Node) → node_of seen node ≡ Some n → WasSeen nodes w node n

-- what the node has heard of each other one is what goes to it and is not lost, up to some message of those that were seen
abbrev pub HeardSome : RaceRules → (node : ℕ) → World → Node → Type 0
HeardSome rules node seen n = (from : ℕ) (m : Node) → node_of seen from ≡ Some m → from ≢ node
    → Begins (heard_from from n.journal) (carried rules from node m.sent)

-- and it has heard all of that
abbrev pub HeardAll : RaceRules → (node : ℕ) → World → Node → Type 0
HeardAll rules node seen n = (from : ℕ) (m : Node) → node_of seen from ≡ Some m → from ≢ node
    → heard_from from n.journal ≡ carried rules from node m.sent

-- no other node, as it was seen, had more than two rounds less than this one has
abbrev pub NoneBehind : (node : ℕ) → World → Node → Type 0
NoneBehind node seen n = (from : ℕ) (m : Node) → node_of seen from ≡ Some m → from ≢ node
    → n.rounds ≤ m.rounds + 2

-- what happens at the node, in this world, is the inside of a round or the beginning of that, and leaves this node: so it
-- is where a round was broken off
pub record IsPart (rules : RaceRules) (node : ℕ) (v seen : World) (xs : List Happening) (later : Node)
    : Type 0 where
  pub lawful : AllLawful v (all_at node xs)
  pub order : AllMayHappen rules node v xs
  pub leaves : node_of (run v (all_at node xs)) node ≡ Some later
  pub heard : HeardSome rules node seen later

-- behind the inside of a round that leaves this node the round may end
pub record MayEnd (rules : RaceRules) (node : ℕ) (seen : World) (n : Node) : Type 0 where
  pub may : may_come rules n (past.Round (length n.sent)) ≡ true
  pub room : is_full n ≡ false
  pub heard : HeardAll rules node seen n
  pub behind : NoneBehind node seen n

-- the node after the end of a round
abbrev pub after_round : Node → Node
after_round n = (step n events.Round []).node

-- what admissions of a race lead to in a world
pub record AdmitsWell (rules : RaceRules) (broken : ℕ → Bool) (node : ℕ) (w : World) (n : Node)
    (tries : Tried) (xs : List Happening) : Type 0 where
  pub lawful : AllLawful w (all_at node xs)
  pub nowhere_else : AskedNowhereElse w node xs
  pub leaves : node_of (run w (all_at node xs)) node ≡ Some (admitted_after n xs)
  pub race : IsRace rules broken (run w (all_at node xs))
  pub each : (client : ℕ) → IsTriesOf rules (run w (all_at node xs)) client (tried_after node n tries xs client)

-- what a round, whole or broken off, leads to in a world
pub record GoesWell (rules : RaceRules) (broken : ℕ → Bool) (node : ℕ) (w : World) (tries : Tried)
    (xs : List Happening) (later : Node) : Type 0 where
  pub lawful : AllLawful w (all_at node xs)
  pub leaves : node_of (run w (all_at node xs)) node ≡ Some later
  pub race : IsRace rules broken (run w (all_at node xs))
  pub each : (client : ℕ) → IsTriesOf rules (run w (all_at node xs)) client (tries client)
