use Rattle.std.proofs.Common.{◌∙◌}
use Rattle.rp_session.proofs.TokenLaws.{read_back}
use Rattle.rp_session.proofs.tokens.token.Goals as goal

pub unreachable-requires : goal.unreachable-requires
unreachable-requires c =
    let read = read_back c.args.client c.args.number c.args.key _ _ _ _ _ c.read.result c.is_key.ensures c.requires c.to_bytes-bytes.ensures.bytes c.text_len-behind.ensures.len (c.copy_from_slice.ensures.after ∙ c.suffix.ensures) c.read.ensures in
    let is = c.in-Err.is in
    cc

pub returns : goal.returns
returns c =
    let read = read_back c.args.client c.args.number c.args.key _ _ _ _ _ c.read.result c.is_key.ensures c.requires c.to_bytes-bytes.ensures.bytes c.text_len-behind.ensures.len (c.copy_from_slice.ensures.after ∙ c.suffix.ensures) c.read.ensures in
    let is = c.in-Ok.is in
    cc
