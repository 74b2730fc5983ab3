-- Values: each is spelled apart from all others.
use Rattle.std.proofs.Common.{◌≡◌, ℕ, ◌^◌, ◌<◌, inl, inr, List, get_or, ap, sym, arith}
use Rattle.std.proofs.lemmas.Bool.{cases_lt}
use Rattle.std.proofs.lemmas.Bool.Decides.{Decides-eqb}
use Rattle.std.proofs.lemmas.Slice.Eq.{bytes_eq-Decides}
use Rattle.std.specs.Bool.{Decides, nat_eq}
use Rattle.std.specs.Cmp.Lexicographic.{pointwise}
use Rattle.std.proofs.lemmas.Fmt.{decimal_digit, decimal_injective, first_decimal}
use Rattle.std.specs.Fmt.{decimal}
use Rattle.rp_base.specs.Values.{IsValue, value_eq, value_text}
use Rattle.rp_base.specs.declared.values.Value.{Value}
use Rattle.rp_base.specs.declared.values.Value.TheVariants.{Number, Text}

-- no decimal begins with an apostrophe
pub first_above_sign : (n : ℕ) → n < 2 ^ 64 → 39 < get_or (decimal n) 0 0
first_above_sign n fits = elim (cases_lt 0 n) [
  | inl some ↦ omega (arith, first_decimal n some fits)
  | inr none ↦ omega (arith, ap (λ bs. get_or bs 0 0) (decimal_digit n (omega arith)), none)
]

pub number_no_text : (n : ℕ) (text : List ℕ) → n < 2 ^ 64 → ¬ (value_text (Number n) ≡ value_text (Text text))
number_no_text n text fits same =
    let first : get_or (decimal n) 0 0 ≡ 39 = ap (λ bs. get_or bs 0 0) same in
    omega (arith, first_above_sign n fits)

-- values that are spelled alike are the same
pub one_value : (v w : Value) → IsValue v → IsValue w → value_text v ≡ value_text w → v ≡ w
one_value (Number m) (Number n) hm hn same = ap Number (decimal_injective m n hm hn same)
one_value (Number m) (Text text) hm ht same = absurd (number_no_text m text hm same)
one_value (Text text) (Number n) ht hn same = absurd (number_no_text n text hn (sym same))
one_value (Text one) (Text other) ho ht same = let text : one ≡ other = cc in ap Text text

-- the test of two values says whether they are the same
pub value_eq-Decides : (v w : Value) → Decides (value_eq v w) (v ≡ w)
value_eq-Decides (Number m) (Number n) = (λ yes. ap Number ((Decides-eqb m n).0 yes), λ same. (Decides-eqb m n).1 (cc))
value_eq-Decides (Number m) (Text text) = (λ yes. cc, λ same. cc)
value_eq-Decides (Text text) (Number n) = (λ yes. cc, λ same. cc)
value_eq-Decides (Text one) (Text other) =
    let bytes : Decides (pointwise nat_eq one other) (one ≡ other) = bytes_eq-Decides one other in
    (λ yes. ap Text (bytes.0 yes), λ same. bytes.1 (cc))
