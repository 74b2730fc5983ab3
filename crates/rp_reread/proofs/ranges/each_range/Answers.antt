use Rattle.std.proofs.Common.{Some, sym, ap, ◌∙◌}
use Rattle.std.proofs.lemmas.Result.{err_from_is_err_and}
use Rattle.rp_reread.specs.Forms.{range_of}
use Rattle.rp_reread.proofs.Each.{each_begins, each_puts, each_fails, each_ends}
use Rattle.rp_reread.proofs.ranges.each_range.Goals as goal

pub loop-value-init : goal.loop-value-init
loop-value-init c = each_begins _ _ c.new-found.ensures

pub loop-value-preserved : goal.loop-value-preserved
loop-value-preserved c =
    each_puts (range_of c.args.nodes) c.args.values.now c.loop-value.value-index c.value-item.result c.loop-value.found c.put_range.new.found _ _
    c.loop-value-test.true c.value-item.is c.in_ok-put_range.ensures c.loop-value.invariant

pub returns-in_err-put_range : goal.returns-in_err-put_range
returns-in_err-put_range c =
    let p = err_from_is_err_and c.from_residual.result c.from_residual.ensures.1 in
    rw (p.1, p.2) (each_fails (range_of c.args.nodes) c.args.values.now c.loop-value.value-index c.value-item.result c.loop-value.found c.put_range.new.found _ _
    c.loop-value-test.true c.value-item.is c.in_err-put_range.ensures c.loop-value.invariant)

pub returns : goal.returns
returns c = each_ends (range_of c.args.nodes) c.args.values.now c.loop-value.value-index c.loop-value.found _ c.loop-value-test.false c.loop-value.invariant
