use Rattle.std.proofs.Common.{arith, ◌≡◌, ◌<◌, ◌^◌, ◌⊎◌, inl, inr, sym, ap, ◌∙◌, length, Ok}
use Rattle.std.proofs.lemmas.List.Sums.{prefix_len-le-length}
use Rattle.std.specs.Char.{is_ascii_digit}
use Rattle.rp_base.specs.Numbers.{number_of, digits_len}
use Rattle.rp_base.proofs.NumberLaws.{u64_of_stops, u64_of_fits, u64_of_large}
use Rattle.rp_base.proofs.numbers.read_u64.Goals as goal

pub returns-then-place-eq0 : goal.returns-then-place-eq0
returns-then-place-eq0 c =
    let stops : (digits_len c.args.text.now ≡ 0) ⊎ (digits_len c.args.text.now < length c.args.text.now) =
    elim c.then-place-eq0.either [ inl empty ↦ inl (sym c.digits_len-place.ensures ∙ empty) | inr short ↦ inr (omega (arith, short)) ] in
    rw c.digits_len-place.ensures (sym (u64_of_stops c.args.text.now stops))

pub value_of-requires : goal.value_of-requires
value_of-requires c = omega (arith, prefix_len-le-length is_ascii_digit c.args.text.now)

pub returns-in-Some : goal.returns-in-Some
returns-in-Some c =
    let whole : digits_len c.args.text.now ≡ length c.args.text.now = omega (arith, prefix_len-le-length is_ascii_digit c.args.text.now) in
    let value : (number_of c.args.text.now < 2 ^ 64) × (c.in-Some.number ≡ number_of c.args.text.now) = c.in-Some.ensures in
    ap Ok value.1 ∙ sym (u64_of_fits c.args.text.now (omega arith) whole value.0)

pub returns-in-None : goal.returns-in-None
returns-in-None c =
    let whole : digits_len c.args.text.now ≡ length c.args.text.now = omega (arith, prefix_len-le-length is_ascii_digit c.args.text.now) in
    sym (u64_of_large c.args.text.now (omega arith) whole (omega (arith, c.in-None.ensures)))
