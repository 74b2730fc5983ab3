use Rattle.std.proofs.Common.{refl, sym, ◌∙◌}
use Rattle.rp_base.proofs.SplitLaws.{split_is}
use Rattle.rp_range.proofs.split_at.Goals as goal

pub returns : goal.returns
returns c =
    sym (split_is c.args.desc c.args.key _ _ (record {
      inside = λ same. c.if-bound-desc.false (c.bound-bound.ensures.value ∙ same);
      level = c.if-desc-ge3.false;
      left_id = refl;
      left_level = refl;
      left_start = refl;
      left_end = c.bound-bound.ensures.value;
      right_id = c.right_id.ensures;
      right_level = refl;
      right_start = c.bound-bound.ensures.value;
      right_end = refl;
    }))
