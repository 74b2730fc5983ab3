-- How a range splits (this project).
use Rattle.std.specs.Prelude.{◌≡◌, ℕ, ◌+◌, ◌-◌, ◌^◌, ◌<◌, ◌≤◌, Bool, true, false, ◌==◌, nat_lt, if◌then◌else◌, Result, Ok, Err, refl}
use Rattle.std.proofs.Common.{lit<, lit≤, add-one, arith}
use Rattle.std.proofs.lemmas.Bool.Decides.{nat_tests}
use Rattle.std.proofs.Math.Nat.{pow-suc}
use Rattle.rp_base.specs.declared.ranges.Desc.{Desc}
use Rattle.rp_base.specs.declared.ranges.SplitFault.{SplitFault}
use Rattle.rp_base.specs.declared.ranges.SplitFault.TheVariants.{NotInside, SplitLimit}

-- the number lies in the range's bounds
abbrev pub InBounds : Desc → ℕ → Type 0
InBounds d n = (d.start ≤ n) × (n < d.end)

-- below level 3 there is one level more, with room for the ids of both parts
pub level_more : (level : ℕ) → nat_lt level 3 ≡ true → level + 1 ≤ 3
level_more level low = grind (arith, nat_tests)

pub left_id_fits : (id level : ℕ) → id < 2 ^ level → id < 2 ^ (level + 1)
left_id_fits id level fits = rw (add-one, pow-suc) (omega arith)

pub right_id_fits : (id level : ℕ) → id < 2 ^ level → id + 2 ^ level < 2 ^ (level + 1)
right_id_fits id level fits = rw (add-one, pow-suc) (omega arith)

-- the left part keeps the id and ends at the key
abbrev pub left_part : (d : Desc) (key : ℕ) → nat_lt d.level 3 ≡ true → Desc
left_part d key low = record {
  id = d.id;
  level = d.level + 1;
  start = d.start;
  end = key;
  level_to_three = level_more d.level low;
  id_of_level = left_id_fits d.id d.level d.id_of_level;
}

-- the right part begins at the key, and its id is the left one's plus 2 to the former level
abbrev pub right_part : (d : Desc) (key : ℕ) → nat_lt d.level 3 ≡ true → Desc
right_part d key low = record {
  id = d.id + 2 ^ d.level;
  level = d.level + 1;
  start = key;
  end = d.end;
  level_to_three = level_more d.level low;
  id_of_level = right_id_fits d.id d.level d.id_of_level;
}

-- both parts, at a level below 3
abbrev pub parts_of : (d : Desc) (key : ℕ) (low : Bool) → nat_lt d.level 3 ≡ low → Result (Desc × Desc) SplitFault
parts_of d key true low = Ok (left_part d key low, right_part d key low)
parts_of d key false high = Err (SplitLimit d.level)

-- the left and the right part, or why there is no split: at the start, or at level 3
abbrev pub split_of : Desc → ℕ → Result (Desc × Desc) SplitFault
split_of d key = if key == d.start then Err NotInside else parts_of d key (nat_lt d.level 3) refl

-- the first range: all keys, never split
abbrev pub first_desc : Desc
first_desc = record { id = 0; level = 0; start = 0; end = 2 ^ 128 - 1; level_to_three = lit≤ tt; id_of_level = lit< tt }

-- the range comes from another by splits
pub data ComesFrom (d : Desc) : Desc → Type 0 where
  itself : ComesFrom d d
  by_left : (x : Desc) (key : ℕ) (left right : Desc) → ComesFrom d x → split_of x key ≡ Ok (left, right) → ComesFrom d left
  by_right : (x : Desc) (key : ℕ) (left right : Desc) → ComesFrom d x → split_of x key ≡ Ok (left, right) → ComesFrom d right
