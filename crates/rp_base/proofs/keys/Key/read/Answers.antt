use Rattle.std.proofs.Common.{arith, ◌≡◌, ◌<◌, ◌⊎◌, inl, inr, length, sym, ◌∙◌}
use Rattle.rp_base.specs.Keys.{key_len}
use Rattle.rp_base.proofs.KeyLaws.{key_of_err, key_of_bytes}
use Rattle.rp_base.proofs.keys.Key.read.Goals as goal

pub returns-then-good-eq0 : goal.returns-then-good-eq0
returns-then-good-eq0 c =
    let e : c.min-good.result ≡ key_len c.args.text.now = cc in
    let stops : (key_len c.args.text.now ≡ 0) ⊎ (key_len c.args.text.now < length c.args.text.now) =
    elim c.then-good-eq0.either [ inl empty ↦ inl (sym e ∙ empty) | inr short ↦ inr (omega (arith, short)) ] in
    rw e (sym (key_of_err c.args.text.now stops))

pub invariant_of-result : goal.invariant_of-result
invariant_of-result c = (c.args.text.now, key_of_bytes c.args.text.now c.min-good.result c.from_be_bytes.result (cc) c.if-good-eq0.false c.if-good-text.false (cc))

pub returns : goal.returns
returns c = sym (key_of_bytes c.args.text.now c.min-good.result c.from_be_bytes.result (cc) c.if-good-eq0.false c.if-good-text.false (cc))
