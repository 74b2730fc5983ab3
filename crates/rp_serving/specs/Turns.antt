-- How far a turn at a node has come (this project).
use Rattle.std.specs.Prelude.{◌≡◌, ◌≢◌, ℕ, ◌≤◌, true, List, [], ◌∷◌, ◌++◌, Some}
use Rattle.rp_bufcore.specs.declared.ends.BufferEnd.{Ghosts}
use Rattle.rp_request.specs.Applied.{AppliedState}
use Rattle.rp_events.specs.declared.node_events.Event.{Event}
use Rattle.rp_events.specs.Nodes.{Node}
use Rattle.rp_events.specs.Worlds.{World, node_of}
use Rattle.rp_race.specs.Rounds.{all_flushed, flushing, handed_over, stage_of, may_deliver}
use Rattle.rp_race.specs.Owed.{heard_from, carried}
use Rattle.rp_race.specs.Gives.{HeardAll, MayEnd, after_round}
use Rattle.rp_switch.specs.Seats.{known_by}
use Rattle.rp_switch.specs.Views.{Knowledge}
use Rattle.rp_serving.specs.declared.letters.Letter.{Letter}
use Rattle.rp_serving.specs.declared.turns.Turn.{Turn}
use Rattle.rp_serving.specs.Inside.{IsUnderWay, MayGoOn, WentOn}
use Rattle.rp_serving.specs.Letters.{letters_of, AreLeft}
use Rattle.rp_serving.specs.Playing.{HasIt, taken_from}

-- what is left of a sender's letters
pub record IsLeftOf (v : Knowledge) (node from : ℕ) (n : Node) (letters : List Letter) : Type 0 where
  pub m : Node
  pub saw : node_of v.seen from ≡ Some m
  pub apart : from ≢ node
  pub left : AreLeft from n letters (letters_of v.terms.rules from node m.sent)

-- the letter is the next one of its sender
pub record IsNextOf (v : Knowledge) (node from : ℕ) (n : Node) (l : Letter) : Type 0 where
  pub rest : List Letter
  pub left : IsLeftOf v node from n (l ∷ rest)

-- the node has heard this letter of the sender, and nothing of others
pub record Delivers (from : ℕ) (l : Letter) (n later : Node) : Type 0 where
  pub heard : heard_from from later.journal ≡ heard_from from n.journal ++ l.number ∷ []
  pub others : (k : ℕ) → k ≢ from → heard_from k later.journal ≡ heard_from k n.journal
  pub handed : handed_over later.journal ≡ handed_over n.journal
  pub stage : may_deliver from (stage_of later.journal) ≡ true

-- the node has heard all of the sender that it is to hear, and nothing of others
pub record DeliversAll (v : Knowledge) (node from : ℕ) (n later : Node) : Type 0 where
  pub heard : (m : Node) → node_of v.seen from ≡ Some m
      → heard_from from later.journal ≡ carried v.terms.rules from node m.sent
  pub others : (k : ℕ) → k ≢ from → heard_from k later.journal ≡ heard_from k n.journal
  pub handed : handed_over later.journal ≡ handed_over n.journal
  pub stage : may_deliver from (stage_of later.journal) ≡ true

-- nothing more was heard
abbrev pub HearsSame : Node → Node → Type 0
HearsSame n later = (k : ℕ) → heard_from k later.journal ≡ heard_from k n.journal

-- nothing more was heard, and nothing was handed over
pub record HearsNothing (n later : Node) : Type 0 where
  pub heard : HearsSame n later
  pub handed : handed_over later.journal ≡ handed_over n.journal

-- all live ranges were flushed
pub record HasFlushed (n : Node) : Type 0 where
  pub ranges : ℕ
  pub stage : stage_of n.journal ≡ flushing ranges
  pub all : all_flushed n ranges ≡ true

-- the round is whole: behind its inside it ended
pub record PlaysWhole (v : Knowledge) (node : ℕ) (n : Node) : Type 0 where
  pub inside : Node
  pub under_way : IsUnderWay v.terms.rules node (taken_from v) v.seen inside
  pub may_end : MayEnd v.terms.rules node v.seen inside
  pub leaves : n ≡ after_round inside

module _ {E : Type 0} {g : Ghosts E} where
  -- what its seat knows
  abbrev pub known_of : Turn E g → Knowledge
  known_of t = known_by t.seat.now

  -- the seat has the node, and may play its rounds
  abbrev pub Has : Turn E g → Type 0
  Has t = HasIt (known_of t) t.node

  -- something of a round has happened, and leaves this node
  abbrev pub UnderWay : Turn E g → Node → Type 0
  UnderWay t n = IsUnderWay (known_of t).terms.rules t.node (taken_from (known_of t)) (known_of t).seen n

  -- the round may go on by this event
  abbrev pub May : Turn E g → Node → Event AppliedState → Type 0
  May t n e = MayGoOn (known_of t).terms.rules (known_of t).terms.nodes t.node (known_of t).seen n e

  -- and it went on by this
  abbrev pub Went : Turn E g → Node → Event AppliedState → Node → Type 0
  Went t n e later = WentOn (known_of t).terms.rules t.node (taken_from (known_of t)) (known_of t).seen n e later

  -- all of what was sent to the node is heard
  abbrev pub AllHeard : Turn E g → Node → Type 0
  AllHeard t n = HeardAll (known_of t).terms.rules t.node (known_of t).seen n
