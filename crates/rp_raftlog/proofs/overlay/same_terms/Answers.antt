use Rattle.std.proofs.Common.{◌+◌, ◌≤◌, ◌⊎◌, length, arith}
use Rattle.rp_raftlog.proofs.Overlays.{same_end}
use Rattle.rp_raftlog.proofs.overlay.same_terms.Goals as goal

pub returns : goal.returns
returns c =
    let ends : (length c.args.news.now ≤ c.loop-same.same) ⊎ (length c.args.held.now.entries ≤ c.args.place + c.loop-same.same) = grind arith in
    let e = same_end c.args.news.now c.args.held.now.entries c.loop-same.same (c.args.place + c.loop-same.same) ends in
    let i = c.loop-same.invariant in
    omega arith
