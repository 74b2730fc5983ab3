-- A refresh of all parts the Proposed ones.
use Rattle.std.proofs.Common.{◌≡◌, ℕ, ◌-◌, Bool, true, false, ◌&&◌, ◌||◌, nat_le, nat_lt, arith, refl}
use Rattle.std.proofs.lemmas.Bool.Decides.{nat_tests}
use Rattle.rp_pending.specs.declared.proposals.Proposal.{Proposal}
use Rattle.rp_pending.specs.Proposals.{is_proposed}
use Rattle.rp_pending.specs.Refreshes.{goes_again, goes_back}

at_or_above : (m n : ℕ) → (nat_le m n || nat_lt n m) ≡ true
at_or_above m n = grind (arith, nat_tests)

one_side : (m n : ℕ) → (nat_le m n && nat_lt n m) ≡ false
one_side m n = grind (arith, nat_tests)

pub each_one : (lai now : ℕ) (p : Proposal) → (goes_back lai p || goes_again lai now true p) ≡ is_proposed p.stage
each_one lai now p = by (is_proposed p.stage) (nat_le p.max lai) (nat_lt lai p.max) (at_or_above p.max lai)
  where
    by : (a b c : Bool) → (b || c) ≡ true → (a && b || (a && c && true)) ≡ a
    by true true c h = refl
    by true false true h = refl
    by true false false h = h
    by false b c h = refl

pub not_both : (lai now : ℕ) (all : Bool) (p : Proposal) → (goes_back lai p && goes_again lai now all p) ≡ false
not_both lai now all p = by (is_proposed p.stage) (nat_le p.max lai) (nat_lt lai p.max) (all || nat_le 5 (now - p.since)) (one_side p.max lai)
  where
    by : (a b c d : Bool) → (b && c) ≡ false → (a && b && (a && c && d)) ≡ false
    by true true true d h = cc
    by true true false d h = refl
    by true false c d h = refl
    by false b c d h = refl
