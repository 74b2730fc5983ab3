-- What a mail keeps for a node (this project): of each other node the messages that were copied and are not delivered.
use Rattle.std.specs.Prelude.{◌≡◌, ◌≢◌, ℕ, ◌+◌, ◌-◌, ◌<◌, ◌≤◌, List, [], ◌++◌, length, take, drop, slice_get, slice_set, Option, Some, Result, Ok, Err}
use Rattle.rp_events.specs.Nodes.{Node}
use Rattle.rp_events.specs.Worlds.{World, node_of}
use Rattle.rp_race.specs.declared.rules.RaceRules.{RaceRules}
use Rattle.rp_race.specs.Rounds.{handed_over}
use Rattle.rp_serving.specs.declared.lanes.Lane.{Lane}
use Rattle.rp_serving.specs.declared.mails.Mail.{Mail}
use Rattle.rp_serving.specs.Letters.{letters_behind, letters_of, AreLeft}

-- the lane of a sender; there are five
abbrev pub lane_in : Mail → (from : ℕ) → Option Lane
lane_in mail from = slice_get mail.lanes (from - 1)

-- Of a sender as it was seen so many messages were copied. Those for the node that are not lost are what the node has
-- heard and what the lane holds, in order.
pub record IsLaneOf (rules : RaceRules) (from to : ℕ) (m n : Node) (lane : Lane) : Type 0 where
  pub within : lane.copied ≤ length m.sent
  pub left : AreLeft from n lane.letters.list (letters_of rules from to (take lane.copied m.sent))

-- all that the sender had sent was copied, and its rounds are known
pub record IsUpToDate (m : Node) (lane : Lane) : Type 0 where
  pub copied : lane.copied ≡ length m.sent
  pub rounds : lane.rounds ≡ m.rounds

-- the mail of a node, beside the other nodes as they were seen
pub record IsMailOf (rules : RaceRules) (to : ℕ) (seen : World) (n : Node) (mail : Mail) : Type 0 where
  pub node : mail.node ≡ to
  pub lanes : (from : ℕ) (m : Node) (lane : Lane) → node_of seen from ≡ Some m → from ≢ to
      → lane_in mail from ≡ Some lane → IsLaneOf rules from to m n lane
  pub handed : mail.handed ≡ handed_over n.journal

-- nothing of what the other nodes had sent is still to be copied
abbrev pub IsWhole : (to : ℕ) → World → Mail → Type 0
IsWhole to seen mail = (from : ℕ) (m : Node) (lane : Lane) → node_of seen from ≡ Some m → from ≢ to
    → lane_in mail from ≡ Some lane → IsUpToDate m lane

-- another node than the mail's own, when it was copied from, had more than two rounds less than so many
pub record LagsIn (mail : Mail) (from rounds : ℕ) : Type 0 where
  pub numbered : 1 ≤ from
  pub other : from ≢ mail.node
  pub lane : Lane
  pub there : lane_in mail from ≡ Some lane
  pub lags : lane.rounds + 2 < rounds

-- so much of the sender's list was copied since
pub record IsCopiedTo (rules : RaceRules) (from to : ℕ) (m : Node) (old new : Lane) : Type 0 where
  pub rises : old.copied ≤ new.copied
  pub within : new.copied ≤ length m.sent
  pub letters : new.letters.list ≡ old.letters.list
      ++ letters_behind rules from to (old.copied + 1) (take (new.copied - old.copied) (drop old.copied m.sent))

-- what a copy leaves: all is copied, or at want of memory some
abbrev pub IsCopied : RaceRules → (from to : ℕ) → Node → Lane → {A B : Type 0} → Result A B → Lane → Type 0
IsCopied rules from to m old (Ok done) new = IsCopiedTo rules from to m old new × IsUpToDate m new
IsCopied rules from to m old (Err fault) new = IsCopiedTo rules from to m old new

-- the letters of a lane are out
pub record IsEmptiedLane (before after : Lane) : Type 0 where
  pub copied : after.copied ≡ before.copied
  pub rounds : after.rounds ≡ before.rounds
  pub letters : after.letters.list ≡ []

-- those of all other nodes are, of so many nodes
pub record IsEmptied (nodes : ℕ) (old new : Mail) : Type 0 where
  pub node : new.node ≡ old.node
  pub each : (from : ℕ) (before after : Lane) → 1 ≤ from → from ≤ nodes → from ≢ old.node
      → lane_in old from ≡ Some before → lane_in new from ≡ Some after → IsEmptiedLane before after
