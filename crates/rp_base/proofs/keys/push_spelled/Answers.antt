use Rattle.std.proofs.Common.{◌≡◌, ◌∙◌}
use Rattle.rp_base.specs.Keys.{key_text}
use Rattle.rp_base.proofs.KeyLaws.{IsUtf8-spelled}
use Rattle.rp_base.proofs.TextLaws.{IsOk-no_err}
use Rattle.rp_base.proofs.keys.push_spelled.Goals as goal

pub unwrap-word-requires : goal.unwrap-word-requires
unwrap-word-requires c =
    let spelled = IsUtf8-spelled c.args.number c.spelled_len-end.result c.to_be_bytes-bytes.result c.requires c.to_be_bytes-bytes.ensures c.spelled_len-end.ensures in
    IsOk-no_err _ _ _ c.from_utf8.ensures.cases (λ e h. h.0 spelled.1)

pub returns-clause-ok : goal.returns-clause-ok
returns-clause-ok c =
    let spelled = IsUtf8-spelled c.args.number c.spelled_len-end.result c.to_be_bytes-bytes.result c.requires c.to_be_bytes-bytes.ensures c.spelled_len-end.ensures in
    let word : c.unwrap-word.result.now ≡ key_text c.args.number =
    let text = rw c.unwrap-word.ensures at c.from_utf8.ensures.cases in text.0 ∙ spelled.0 in
    rw (← word) c.push_word.ensures.ok
