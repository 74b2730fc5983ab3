use Rattle.std.proofs.Common.{◌≡◌, ◌∙◌, length}
use Rattle.rp_base.specs.Keys.{key_text}
use Rattle.rp_base.proofs.KeyLaws.{key_text_len, to_be_bytes-key, spelling_len}
use Rattle.rp_base.proofs.keys.Key.text_len.Goals as goal

-- the length, as the code counts it
counted : (c : goal.After-spelled_len) → c.spelled_len.result ≡ length (key_text c.bound.result)
counted c = c.spelled_len.ensures ∙ spelling_len c.bound.result _ c.to_be_bytes.result c.bound.ensures.key (c.to_be_bytes.ensures ∙ to_be_bytes-key c.bound.result c.bound.ensures.key)

pub returns-clause-len : goal.returns-clause-len
returns-clause-len c = rw (← c.bound.ensures.value) (counted c)

pub returns-clause-some : goal.returns-clause-some
returns-clause-some c = rw (counted c) (key_text_len c.bound.result c.bound.ensures.key).0

pub returns-clause-short : goal.returns-clause-short
returns-clause-short c = rw (counted c) (key_text_len c.bound.result c.bound.ensures.key).1
