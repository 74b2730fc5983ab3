use Rattle.rp_base.proofs.TextLaws.{IsOk-no_err, IsUtf8-text}
use Rattle.rp_base.proofs.short_texts.ShortText.as_str.Goals as goal

pub unwrap-requires : goal.unwrap-requires
unwrap-requires c = IsOk-no_err _ _ _ c.from_utf8.ensures.cases (λ e h. h.0 (IsUtf8-text c.as_bytes.result.now c.as_bytes.ensures.text))
