use Rattle.std.proofs.Common.{arith}
use Rattle.std.proofs.lemmas.Result.{err_from_is_err_and}
use Rattle.rp_reread.proofs.Each.{each_begins, replicas_put, replicas_fail, replicas_end}
use Rattle.rp_reread.proofs.ranges.each_replica.Goals as goal

pub loop-value-init : goal.loop-value-init
loop-value-init c = record { read = each_begins _ _ c.new-found.ensures; turn = omega arith }

pub loop-value-preserved : goal.loop-value-preserved
loop-value-preserved c = record {
  read =
      replicas_put c.args.values.now c.loop-value.value-index c.loop-value.turn c.value-item.result c.loop-value.found c.put_replica.new.found _ _
      c.loop-value-test.true c.value-item.is c.in_ok-put_replica.ensures c.loop-value.invariant.read;
  turn = omega (arith, c.loop-value.invariant.turn);
}

pub returns-in_err-put_replica : goal.returns-in_err-put_replica
returns-in_err-put_replica c =
    let p = err_from_is_err_and c.from_residual.result c.from_residual.ensures.1 in
    rw (p.1, p.2) (replicas_fail c.args.values.now c.loop-value.value-index c.loop-value.turn c.value-item.result c.loop-value.found c.put_replica.new.found _ _
    c.loop-value-test.true c.value-item.is c.in_err-put_replica.ensures c.loop-value.invariant.read)

pub returns : goal.returns
returns c = replicas_end c.args.values.now c.loop-value.value-index c.loop-value.turn c.loop-value.found _ c.loop-value-test.false c.loop-value.invariant.read
