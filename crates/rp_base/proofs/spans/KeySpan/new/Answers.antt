use Rattle.std.proofs.Common.{refl, sym}
use Rattle.rp_base.proofs.SpanLaws.{key_span_is}
use Rattle.rp_base.proofs.spans.KeySpan.new.Goals.{in_default-via-in-Some+else-bound-first, in_default-via-in_default}
use Rattle.rp_base.proofs.spans.KeySpan.new.Goals as goal

pub returns-in_default-clause-span : goal.returns-in_default-clause-span
returns-in_default-clause-span c = sym (key_span_is c.args.start c.args.end _ refl (elim c.in_default.branch [
  | in_default-via-in-Some+else-bound-first w ↦ cc
  | in_default-via-in_default w ↦ cc
]))
