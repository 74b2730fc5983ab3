use Rattle.std.proofs.Common.{◌≡◌, ℕ, ◌+◌, ◌-◌, refl, ◌∙◌, ap, List, length, take, drop, arith, rules}
use borrow.Rule.Slice.PartMut.{put_mid}
use Rattle.rp_store.proofs.Bytes.{filled_more}
use Rattle.rp_store.proofs.Calls.{calm_then}
use Rattle.rp_store.proofs.reads.fill.Goals as goal

pub loop-done-preserved : goal.loop-done-preserved
loop-done-preserved g c =
    let inv = c.loop-done.invariant in
    let came = c.in_ok-n.ensures in
    let done = c.loop-done.done in
    let buf = c.loop-done.buf in
    let new = c.read_some.new.buf in
    let whole : length (put_mid done (length buf - done) buf new) ≡ length buf = search rules in
    let long : length new ≡ length buf - done = search rules in
    record {
      fits = omega (arith, whole, long, came.within, inv.fits);
      size = whole ∙ inv.size;
      place = inv.place;
      range = omega (arith, whole, inv.range);
      front = λ told fits.
          let stays = came.calm told in
          let reads = came.bytes told in
          filled_more done (length buf - done) c.in_ok-n.n c.args.at buf new (g.D.Disk.file c.args.disk.now).seen inv.fits refl long (omega (arith, came.within, long)) (inv.front stays.told (omega (arith, fits, whole)))
          (reads.given ∙ ap (λ (l : List ℕ). take c.in_ok-n.n (drop (c.args.at + done) l)) (inv.calm stays.told).seen);
      calm = calm_then (g.D.Disk.file c.args.disk.now) (g.D.Disk.file c.loop-done.disk) (g.D.Disk.file c.read_some.new.disk) inv.calm came.calm;
      still = came.still ∙ inv.still;
    }
