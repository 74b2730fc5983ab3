use Rattle.std.proofs.Common.{◌∙◌}
use Rattle.rp_base.proofs.KeyLaws.{key_text_len, to_be_bytes-key}
use Rattle.rp_base.proofs.keys.Key.to_bytes.Goals as goal

pub returns-clause-bytes : goal.returns-clause-bytes
returns-clause-bytes c = rw (← c.bound.ensures.value) (c.to_be_bytes.ensures ∙ to_be_bytes-key c.bound.result c.bound.ensures.key)

pub returns-clause-some : goal.returns-clause-some
returns-clause-some c = rw (← c.bound.ensures.value) (key_text_len c.bound.result c.bound.ensures.key).0

pub returns-clause-short : goal.returns-clause-short
returns-clause-short c = rw (← c.bound.ensures.value) (key_text_len c.bound.result c.bound.ensures.key).1
