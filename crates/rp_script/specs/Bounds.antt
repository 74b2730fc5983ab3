-- What the lines that are taken keep to.
use Rattle.std.specs.Prelude.{◌≡◌, ℕ, ◌^◌, ◌≤◌, ◌<◌, List, [], ◌∷◌, length, Option, None, Some, IfSome, IsFalse, IsTrue, Bool, false}
use Rattle.rp_base.specs.Keys.{IsKey}
use Rattle.rp_base.specs.ClientCounts.{count_of}
use Rattle.rp_request.specs.Fits.{FitsRequest}
use Rattle.rp_script.specs.Seen.{Seen, unseen, after}
use Rattle.rp_script.specs.declared.lines.NumberedLine.{NumberedLine}
use Rattle.rp_script.specs.declared.lines.ScriptLine.{ScriptLine}
use Rattle.rp_script.specs.declared.lines.ScriptLine.TheVariants as lines

-- a number from one to another
abbrev pub IsFromTo : ℕ → ℕ → ℕ → Type 0
IsFromTo low high n = (low ≤ n) × (n ≤ high)

-- a node of a cluster of so many; a client; one of the commands that a client has; a count of ticks or rounds
abbrev pub IsNode : ℕ → ℕ → Type 0
IsNode nodes node = IsFromTo 1 nodes node

abbrev pub IsClient : ℕ → Type 0
IsClient client = IsFromTo 1 64 client

abbrev pub IsCommand : List ℕ → (client seq : ℕ) → Type 0
IsCommand commands client seq = IsClient client × IsFromTo 1 (count_of commands client) seq

abbrev pub IsTurns : ℕ → Type 0
IsTurns count = IsFromTo 1 10000 count

-- what a line keeps to in a cluster of so many nodes, where each client has so many commands
abbrev pub Fits : ℕ → List ℕ → ScriptLine → Type 0
Fits nodes commands (lines.Cluster n) = ⊥
Fits nodes commands (lines.Send node range client request) = IsNode nodes node × (range ≤ 7) × IsClient client × FitsRequest request
Fits nodes commands (lines.Admit node range client request) = IsNode nodes node × (range ≤ 7) × IsClient client × FitsRequest request
Fits nodes commands (lines.Again node range client seq) = IsNode nodes node × (range ≤ 7) × IsCommand commands client seq
Fits nodes commands (lines.Draw client seq) = IsCommand commands client seq
Fits nodes commands (lines.Publish client seq) = IsCommand commands client seq
Fits nodes commands (lines.Ask node range) = IsNode nodes node × (range ≤ 7)
Fits nodes commands (lines.Transfer node range to) = IsNode nodes node × (range ≤ 7) × IsNode nodes to
Fits nodes commands (lines.Flush node range) = IsNode nodes node × (range ≤ 7)
Fits nodes commands (lines.Apply node range) = IsNode nodes node × (range ≤ 7)
Fits nodes commands (lines.Cut node range) = IsNode nodes node × (range ≤ 7)
Fits nodes commands (lines.Remove node range) = IsNode nodes node × (range ≤ 7)
Fits nodes commands (lines.Restart node) = IsNode nodes node
Fits nodes commands (lines.Tick node count) = IsNode nodes node × IsTurns count
Fits nodes commands (lines.Deliver node number) = IsNode nodes node × (1 ≤ number) × (number < 2 ^ 64)
Fits nodes commands (lines.Peek node range key) = IsNode nodes node × (range ≤ 7) × IsKey key
Fits nodes commands (lines.Loss percent salt) = (percent ≤ 50) × (salt < 2 ^ 64)
Fits nodes commands (lines.Settle rounds) = IsTurns rounds
Fits nodes commands lines.End = Unit {0}

-- the first line names the number of nodes, 1 to 5
abbrev pub IsFirst : ScriptLine → Type 0
IsFirst (lines.Cluster n) = IsFromTo 1 5 n
IsFirst line = ⊥

-- a line may follow those that were seen
abbrev pub FollowsIn : Option ℕ → (ended : Bool) → (commands : List ℕ) → ScriptLine → Type 0
FollowsIn None ended commands line = IsFirst line
FollowsIn (Some nodes) ended commands line = IsFalse ended × Fits nodes commands line

abbrev pub Follows : Seen → ScriptLine → Type 0
Follows s line = FollowsIn s.nodes s.ended s.commands line

-- each line may follow those before it
abbrev pub AllFollow : Seen → List NumberedLine → Type 0
AllFollow s [] = Unit {0}
AllFollow s (l ∷ more) = Follows s l.line × AllFollow (after s (Some l.line)) more

-- what is known behind these lines
abbrev pub seen_after : Seen → List NumberedLine → Seen
seen_after s [] = s
seen_after s (l ∷ more) = seen_after (after s (Some l.line)) more

-- the lines of a script: each may follow those before it, from the first on, and the last is `end`; that they are a race's changes nothing
pub record IsScript (ls : List NumberedLine) : Type 0 where
  pub follow : AllFollow (unseen false) ls
  pub ended : IsTrue (seen_after (unseen false) ls).ended

-- these lines lead to what is known of the script; skipped lines count beside them
pub record IsAlong (s : Seen) (ls : List NumberedLine) : Type 0 where
  pub follow : AllFollow (unseen false) ls
  pub seen : seen_after (unseen false) ls ≡ record s { race = false; lines = length ls }

-- a cluster has at most 5 nodes, and the client of a new command is 1 to 64
abbrev pub IsBounded : ScriptLine → Type 0
IsBounded (lines.Cluster nodes) = nodes ≤ 5
IsBounded (lines.Send node range client request) = (1 ≤ client) × (client ≤ 64)
IsBounded (lines.Admit node range client request) = (1 ≤ client) × (client ≤ 64)
IsBounded _ = Unit {0}
