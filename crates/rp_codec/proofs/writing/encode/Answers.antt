use Rattle.std.proofs.Common.{◌≡◌, ℕ, List, ◌++◌, ap, ◌∙◌}
use Rattle.rp_codec.specs.Reading.{payload_in}
use Rattle.rp_codec.specs.Spelling.{spelling}
use Rattle.rp_codec.proofs.SpellingLaws.{read_as_spelled}
use Rattle.rp_codec.proofs.writing.encode.Goals as goal

pub returns-clause-read : goal.returns-clause-read
returns-clause-read c =
    let spelled : c.from_vec.result ≡ spelling c.args.payload.now = c.from_vec.ensures ∙ c.in_ok-push_payload.ensures.bytes ∙ ap (λ (bytes : List ℕ). bytes ++ spelling c.args.payload.now) c.new-out.ensures.items in
    ap payload_in spelled ∙ read_as_spelled c.args.payload.now c.in_ok-push_payload.ensures.fits
