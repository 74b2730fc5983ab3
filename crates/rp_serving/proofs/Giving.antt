-- How many items a collect gives.
use Rattle.std.proofs.Common.{ℕ, zero, suc, ◌≤◌, List, length, ap, arith, Option, Some, None}
use Rattle.std.proofs.lemmas.List.{length-append}
use Rattle.std.specs.Option.{option_to_list}
use Rattle.rp_base.specs.declared.items.Item.{Item}
use Rattle.rp_buffer.specs.declared.rule.Hand.{Hand}
use Rattle.rp_buffer.specs.Collects.{Swept, Collects}

at_most_one : (found : Option Item) → length (option_to_list found) ≤ 1
at_most_one None = omega arith
at_most_one (Some x) = omega arith

-- each place gives one item at most
swept_few : (n b : ℕ) (v w : Hand) (items : List Item) → Swept b n v items w → length items ≤ n
unfolding Swept
swept_few zero b v w items told = let none = ap length told.0 in omega (arith, none)
swept_few (suc n) b v w items (first, mid, found, before, here, is) =
    let few = swept_few n b v mid first before in
    let sum = length-append first (option_to_list found) in
    let one = at_most_one found in
    let whole = ap length is in
    omega (arith, few, sum, one, whole)

-- and there are sixteen places
pub collects_few : (v w : Hand) (b : ℕ) (items : List Item) → Collects v b items w → length items ≤ 16
collects_few v w b items told = let (shut, swept, shuts, sweeps, reopens) = told.steps in swept_few 16 b shut swept items sweeps
