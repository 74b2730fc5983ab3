use Rattle.std.proofs.Common.{ap, subst, ◌∙◌, arith}
use Rattle.rp_codec.specs.Reading.{Decoded, payload_in}
use Rattle.rp_codec.proofs.SpellingLaws.{read_as_spelled, given_spelled}
use Rattle.rp_codec.proofs.reading.decode.Goals as goal

pub returns-clause-spelled : goal.returns-clause-spelled
returns-clause-spelled c = given_spelled c.args.bytes.now c.spelled.result (λ i. omega (arith, c.type_inv.bytes i)) c.spelled.ensures

pub returns-clause-only : goal.returns-clause-only
returns-clause-only c = λ p fits e. subst (λ f. Decoded c.spelled.result f) (ap payload_in e ∙ read_as_spelled p fits) c.spelled.ensures
