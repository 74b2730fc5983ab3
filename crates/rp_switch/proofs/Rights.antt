-- Rights by their places.
use Rattle.std.proofs.Common.{◌≡◌, ℕ, zero, suc, ◌+◌, ◌≤◌, Bool, true, false, if◌then◌else◌, List, [], ◌∷◌, length, refl, ap, sym, ◌∙◌, arith}
use Rattle.rp_switch.specs.Views.{Right, Lacks, Tries, Rounds, BrokenOff, right_at, by_place, chosen, others, either_right, together}
use Rattle.rp_switch.specs.Rules.{weight}

pub at_place : (f : ℕ → Right → Right) → ((k : ℕ) → f k Lacks ≡ Lacks) → (rs : List Right) (k j : ℕ)
    → right_at (by_place f k rs) j ≡ f (k + j) (right_at rs j)
unfolding by_place
at_place f lacks [] k zero = sym (lacks (k + 0))
at_place f lacks [] k (suc j) = sym (lacks (k + suc j))
at_place f lacks (r ∷ rs) k zero = ap (λ i. f i r) (omega arith)
at_place f lacks (r ∷ rs) k (suc j) = at_place f lacks rs (suc k) j ∙ ap (λ i. f i (right_at rs j)) (omega arith)

pub as_many : (f : ℕ → Right → Right) (k : ℕ) (rs : List Right) → length (by_place f k rs) ≡ length rs
unfolding by_place
as_many f k [] = refl
as_many f k (r ∷ rs) = ap suc (as_many f (suc k) rs)

abbrev picked : (ℕ → Bool) → ℕ → Right → Right
picked p k r = if p k then r else Lacks

abbrev unpicked : (ℕ → Bool) → ℕ → Right → Right
unpicked p k r = if p k then Lacks else r

picks_nothing : (b : Bool) → (if b then Lacks else Lacks) ≡ Lacks
picks_nothing true = refl
picks_nothing false = refl

-- each right is in one half
pub in_chosen : (p : ℕ → Bool) (rs : List Right) (k : ℕ) → right_at (chosen p rs) k ≡ (if p k then right_at rs k else Lacks)
in_chosen p rs k = at_place (picked p) (λ i. picks_nothing (p i)) rs 0 k ∙ ap (λ i. picked p i (right_at rs k)) (omega arith)

pub in_others : (p : ℕ → Bool) (rs : List Right) (k : ℕ) → right_at (others p rs) k ≡ (if p k then Lacks else right_at rs k)
in_others p rs k = at_place (unpicked p) (λ i. picks_nothing (p i)) rs 0 k ∙ ap (λ i. unpicked p i (right_at rs k)) (omega arith)

pub chosen_long : (p : ℕ → Bool) (rs : List Right) → length (chosen p rs) ≡ length rs
chosen_long p rs = as_many (picked p) 0 rs

pub others_long : (p : ℕ → Bool) (rs : List Right) → length (others p rs) ≡ length rs
others_long p rs = as_many (unpicked p) 0 rs

halves : (b : Bool) (r : Right) → weight (if b then r else Lacks) + weight (if b then Lacks else r) ≡ weight r
halves true r = omega arith
halves false r = omega arith

pub halves_weigh : (p : ℕ → Bool) (rs : List Right) (k : ℕ) → weight (right_at (chosen p rs) k) + weight (right_at (others p rs) k) ≡ weight (right_at rs k)
halves_weigh p rs k = let a = ap weight (in_chosen p rs k) in let b = ap weight (in_others p rs k) in
    let h = halves (p k) (right_at rs k) in omega (arith, a, b, h)

pub in_half : (P : Right → Type 0) → P Lacks → (b : Bool) (r : Right) → P r → P (if b then r else Lacks)
in_half P none true r known = known
in_half P none false r known = none

pub in_other_half : (P : Right → Type 0) → P Lacks → (b : Bool) (r : Right) → P r → P (if b then Lacks else r)
in_other_half P none true r known = none
in_other_half P none false r known = known

-- the right to rounds that is in a half was there
pub rounds_chosen : (b : Bool) (r : Right) → (if b then r else Lacks) ≡ Rounds → r ≡ Rounds
rounds_chosen true r e = e
rounds_chosen false r e = absurd (cc)

pub rounds_others : (b : Bool) (r : Right) → (if b then Lacks else r) ≡ Rounds → r ≡ Rounds
rounds_others true r e = absurd (cc)
rounds_others false r e = e

either_lacks : (r : Right) → r ≡ either_right r Lacks
either_lacks Lacks = refl
either_lacks (Tries ts) = refl
either_lacks Rounds = refl
either_lacks BrokenOff = refl

pub together_at : (a b : List Right) (k : ℕ) → right_at (together a b) k ≡ either_right (right_at a k) (right_at b k)
unfolding together
together_at [] b zero = refl
together_at [] b (suc k) = refl
together_at (r ∷ rs) [] zero = either_lacks r
together_at (r ∷ rs) [] (suc k) = either_lacks (right_at rs k)
together_at (r ∷ rs) (s ∷ ss) zero = refl
together_at (r ∷ rs) (s ∷ ss) (suc k) = together_at rs ss k

pub together_long : (a b : List Right) → length a ≡ length b → length (together a b) ≡ length a
unfolding together
together_long [] [] e = refl
together_long [] (s ∷ ss) e = absurd (omega (arith, e))
together_long (r ∷ rs) [] e = absurd (omega (arith, e))
together_long (r ∷ rs) (s ∷ ss) e = ap suc (together_long rs ss (omega (arith, e)))

-- where one of two is lacking, both weigh as much as the one
pub either_weighs : (r s : Right) → weight r + weight s ≤ 1 → weight (either_right r s) ≡ weight r + weight s
either_weighs Lacks s few = omega arith
either_weighs (Tries ts) Lacks few = refl
either_weighs (Tries ts) (Tries us) few = absurd (omega (arith, few))
either_weighs (Tries ts) Rounds few = absurd (omega (arith, few))
either_weighs (Tries ts) BrokenOff few = absurd (omega (arith, few))
either_weighs Rounds Lacks few = refl
either_weighs Rounds (Tries us) few = absurd (omega (arith, few))
either_weighs Rounds Rounds few = absurd (omega (arith, few))
either_weighs Rounds BrokenOff few = absurd (omega (arith, few))
either_weighs BrokenOff Lacks few = refl
either_weighs BrokenOff (Tries us) few = absurd (omega (arith, few))
either_weighs BrokenOff Rounds few = absurd (omega (arith, few))
either_weighs BrokenOff BrokenOff few = absurd (omega (arith, few))

pub in_either : (P : Right → Type 0) (r s : Right) → P r → P s → P (either_right r s)
in_either P Lacks s a b = b
in_either P (Tries ts) s a b = a
in_either P Rounds s a b = a
in_either P BrokenOff s a b = a
