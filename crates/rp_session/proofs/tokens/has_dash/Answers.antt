use Rattle.std.proofs.Common.{◌∙◌, ap}
use Rattle.std.specs.Prelude.{◌==◌}
use Rattle.std.specs.List.{list_any}
use Rattle.rp_session.proofs.TokenLaws.{in_front}
use Rattle.rp_session.proofs.tokens.has_dash.Goals as goal

pub returns : goal.returns
returns c =
    c.any_dash.ensures
    ∙ ap (list_any (λ byte. byte == 45)) (in_front _ _ _ _ c.to_bytes.ensures.bytes c.text_len.ensures.len)
