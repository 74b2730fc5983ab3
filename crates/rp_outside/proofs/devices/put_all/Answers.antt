use Rattle.std.proofs.Common.{◌∙◌, rules}
use Rattle.std.proofs.Math.Seq.{take-add}
use Rattle.std.proofs.lemmas.List.{take_rest}
use Rattle.rp_outside.proofs.Told.{adds_more}
use Rattle.rp_outside.proofs.devices.put_all.Goals as goal

pub loop-done-preserved : goal.loop-done-preserved
loop-done-preserved g c =
    let seam = take-add c.loop-done.done c.in_ok-done.field-0 c.args.bytes.now in
    let rest = take_rest c.args.bytes.now c.loop-done.done in
    let added = rw rest at c.in_ok-done.ensures.adds in
    record {
      within = search rules;
      added = rw seam (adds_more _ _ _ _ _ c.loop-done.invariant.added added);
      calm = c.in_ok-done.ensures.calm ∙ c.loop-done.invariant.calm;
    }
