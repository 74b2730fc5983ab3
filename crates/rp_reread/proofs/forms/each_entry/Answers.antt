use Rattle.std.proofs.Common.{Some, sym, ap, ◌∙◌}
use Rattle.std.proofs.lemmas.Result.{err_from_is_err_and}
use Rattle.rp_reread.specs.Forms.{entry_of}
use Rattle.rp_reread.proofs.Each.{each_begins, each_puts, each_fails, each_ends}
use Rattle.rp_reread.proofs.forms.each_entry.Goals as goal

pub loop-value-preserved : goal.loop-value-preserved
loop-value-preserved c =
    each_puts entry_of c.args.values.now c.loop-value.value-index c.value-item.result c.loop-value.found.items c.put_entry.new.found.items _ _
    c.loop-value-test.true c.value-item.is c.in_ok-put_entry.ensures c.loop-value.invariant

pub returns-in_err-put_entry : goal.returns-in_err-put_entry
returns-in_err-put_entry c =
    let p = err_from_is_err_and c.from_residual.result c.from_residual.ensures.1 in
    rw (p.1, p.2) (each_fails entry_of c.args.values.now c.loop-value.value-index c.value-item.result c.loop-value.found.items c.put_entry.new.found.items _ _
    c.loop-value-test.true c.value-item.is c.in_err-put_entry.ensures c.loop-value.invariant)

pub returns : goal.returns
returns c = each_ends entry_of c.args.values.now c.loop-value.value-index c.loop-value.found.items _ c.loop-value-test.false c.loop-value.invariant
    ∙ ap Some (sym c.from_vec.ensures)
