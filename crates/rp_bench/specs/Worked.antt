-- What a worker's seat knows before its first round and after its last (this project).
use Rattle.std.specs.Prelude.{◌≡◌, ℕ, ◌%◌, ◌<◌, Bool, true, false}
use Rattle.rp_switch.specs.Views.{Right, Lacks, Tries, Rounds, BrokenOff, Stage, Idle, HasNode, HasCell, Chooses, Knowledge, right_at}

-- the seat carries the right to the rounds of each node that the worker serves, none of them broken off
abbrev pub MayServe : Knowledge → (worker workers : ℕ) → Type 0
MayServe v worker workers =
    (place : ℕ) → place < v.terms.nodes → place % workers ≡ worker → right_at v.rights place ≡ Rounds

-- the seat is made for the same, has as many parts and no node, and no right that it lacked
pub record IsWorked (v w : Knowledge) : Type 0 where
  pub terms : w.terms ≡ v.terms
  pub parts : w.parts ≡ v.parts
  pub idle : w.stage ≡ Idle
  pub lacks : (k : ℕ) → right_at v.rights k ≡ Lacks → right_at w.rights k ≡ Lacks

abbrev pub is_lacking : Right → Bool
is_lacking Lacks = true
is_lacking (Tries ts) = false
is_lacking Rounds = false
is_lacking BrokenOff = false

abbrev pub is_idle : Stage → Bool
is_idle Idle = true
is_idle (HasNode place at) = false
is_idle (HasCell place) = false
is_idle (Chooses choice) = false

-- the same, by tests
pub record IsOnward (v w : Knowledge) : Type 0 where
  pub terms : w.terms ≡ v.terms
  pub parts : w.parts ≡ v.parts
  pub idle : is_idle w.stage ≡ true
  pub lacks : (k : ℕ) → is_lacking (right_at v.rights k) ≡ true → is_lacking (right_at w.rights k) ≡ true
