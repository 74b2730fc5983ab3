use Rattle.std.proofs.Common.{ℕ, ◌+◌, refl, subst, List, drop, arith, rules}
use Rattle.rp_store.specs.Walks.{BeginsWhole}
use Rattle.rp_store.proofs.Calls.{calm_then}
use Rattle.rp_store.proofs.Walked.{walked_more}
use Rattle.rp_store.proofs.walks.walk.Goals as goal

pub loop-size-preserved : goal.loop-size-preserved
loop-size-preserved g c =
    let inv = c.loop-size.invariant in
    let came = c.in_ok-head_at.ensures in
    let file = (g.D.Disk.file c.args.disk.now).seen in
    record {
      length = refl;
      range = search rules;
      room = omega arith;
      walked = λ told.
          let stays = came.calm told in
          let head : BeginsWhole c.in-Whole.size (drop c.loop-size.end (g.D.Disk.file c.loop-size.disk).seen) = search rules in
          walked_more c.loop-size.end c.in-Whole.size (c.loop-size.end + (9 + c.in-Whole.size)) c.loop-size.last file (inv.walked stays.told)
          (subst (λ (l : List ℕ). BeginsWhole c.in-Whole.size (drop c.loop-size.end l)) (inv.calm stays.told).seen head) refl;
      calm = calm_then (g.D.Disk.file c.args.disk.now) (g.D.Disk.file c.loop-size.disk) (g.D.Disk.file c.head_at.new.disk) inv.calm came.calm;
      still = search rules;
    }
