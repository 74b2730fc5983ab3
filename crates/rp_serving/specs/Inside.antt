-- The inside of a round in the making (this project): how far it has come, and by which event it may go on.
use Rattle.std.specs.Prelude.{◌≡◌, ◌≢◌, ℕ, ◌≤◌, Bool, true, false, List, [], ◌∷◌, ◌++◌, Some}
use Rattle.rp_base.specs.declared.items.Item.{Item}
use Rattle.rp_raftstep.specs.declared.messages.Message.{Message}
use Rattle.rp_request.specs.Applied.{AppliedState}
use Rattle.rp_events.specs.declared.answers.EventAnswer.{EventAnswer}
use Rattle.rp_events.specs.declared.node_events.Event.{Event}
use Rattle.rp_events.specs.declared.node_events.Event.TheVariants as events
use Rattle.rp_events.specs.declared.parcels.Parcel.{Parcel}
use Rattle.rp_events.specs.Nodes.{Node, parcel_of, is_full}
use Rattle.rp_events.specs.NodeEvents.{past_of}
use Rattle.rp_events.specs.Worlds.{World, Happening, Admit, Ask, Transfer, Collect, Flush, Tick, Deliver, Apply, Cut, Remove, Peek, Restart, Round, node_of}
use Rattle.rp_journals.specs.Growth.{Begins}
use Rattle.rp_race.specs.declared.rules.RaceRules.{RaceRules}
use Rattle.rp_race.specs.Rounds.{may_come}
use Rattle.rp_race.specs.Owed.{heard_from, carried}
use Rattle.rp_race.specs.Gives.{is_within_round, IsPart}

-- an event as what happens: a collect with what the buffer gave
abbrev pub happening_of : Event AppliedState → List Item → Happening
happening_of (events.Admit range id request) taken = Admit range id request
happening_of (events.Ask range) taken = Ask range
happening_of (events.Transfer range to) taken = Transfer range to
happening_of (events.Collect range) taken = Collect range taken
happening_of (events.Flush range) taken = Flush range
happening_of events.Tick taken = Tick
happening_of (events.Deliver from range number message) taken = Deliver from number
happening_of (events.Apply range) taken = Apply range
happening_of (events.Cut range) taken = Cut range
happening_of (events.Remove range) taken = Remove range
happening_of (events.Peek range key) taken = Peek range key
happening_of events.Restart taken = Restart
happening_of events.Round taken = Round

-- in this world, beside the other nodes as they were seen, something of a round has happened at the node and leaves this
pub record IsUnderWay (rules : RaceRules) (node : ℕ) (at seen : World) (n : Node) : Type 0 where
  pub what : List Happening
  pub part : IsPart rules node at seen what n

-- the message stands in the sent list of another node, as it was seen, and is the next one that the node is to hear
pub record IsNextFrom (rules : RaceRules) (node : ℕ) (seen : World) (n : Node) (from range number : ℕ)
    (message : Message AppliedState) : Type 0 where
  pub m : Node
  pub saw : node_of seen from ≡ Some m
  pub apart : from ≢ node
  pub parcel : Parcel AppliedState
  pub stands : parcel_of m.sent number ≡ Some parcel
  pub goes : parcel.to ≡ node
  pub in_range : parcel.range ≡ range
  pub carries : parcel.message ≡ message
  pub next : Begins (heard_from from n.journal ++ number ∷ []) (carried rules from node m.sent)

-- a message is the next one of its sender, a transfer goes to a node that there is
abbrev pub IsDue : RaceRules → (nodes node : ℕ) → World → Node → Event AppliedState → Type 0
IsDue rules nodes node seen n (events.Transfer range to) = (1 ≤ to) × (to ≤ nodes)
IsDue rules nodes node seen n (events.Deliver from range number message) = IsNextFrom rules node seen n from range number message
IsDue rules nodes node seen n _ = Unit {0}

-- the inside of a round may go on by this event
pub record MayGoOn (rules : RaceRules) (nodes node : ℕ) (seen : World) (n : Node) (e : Event AppliedState)
    : Type 0 where
  pub within : is_within_round (happening_of e []) ≡ true
  pub may : may_come rules n (past_of n e []) ≡ true
  pub due : IsDue rules nodes node seen n e

-- it went on by this event, which stands in the journal
pub record WentOn (rules : RaceRules) (node : ℕ) (at seen : World) (n : Node) (e : Event AppliedState) (later : Node)
    : Type 0 where
  pub room : is_full n ≡ false
  pub under_way : IsUnderWay rules node at seen later
  pub taken : List Item
  pub answer : EventAnswer
  pub wrote : later.journal ≡ n.journal ++ record { event = past_of n e taken; answer = answer } ∷ []
