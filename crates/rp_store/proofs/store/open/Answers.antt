use Rattle.std.proofs.Common.{◌≡◌, Err, rules}
use Rattle.rp_store.specs.Records.{Gives}
use Rattle.rp_store.proofs.Settled.{sound_after, undamaged_if}
use Rattle.rp_store.proofs.store.open.Goals as goal

pub returns-in-Ok-clause-sound : goal.returns-in-Ok-clause-sound
returns-in-Ok-clause-sound g c =
    sound_after (g.D.Disk.file c.args.disk) (g.D.Disk.file c.settle.new.disk) (g.met.D.Disk.is_told c.settle.new.disk) c.settle.ensures.any_moment

pub returns-in-Err-Damaged-clause-sound : goal.returns-in-Err-Damaged-clause-sound
returns-in-Err-Damaged-clause-sound g c =
    sound_after (g.D.Disk.file c.args.disk) (g.D.Disk.file c.settle.new.disk) (g.met.D.Disk.is_told c.settle.new.disk) c.settle.ensures.any_moment

pub returns-in-Err-Disk-clause-sound : goal.returns-in-Err-Disk-clause-sound
returns-in-Err-Disk-clause-sound g c =
    sound_after (g.D.Disk.file c.args.disk) (g.D.Disk.file c.settle.new.disk) (g.met.D.Disk.is_told c.settle.new.disk) c.settle.ensures.any_moment

pub returns-in-Err-NoMemory-clause-sound : goal.returns-in-Err-NoMemory-clause-sound
returns-in-Err-NoMemory-clause-sound g c =
    sound_after (g.D.Disk.file c.args.disk) (g.D.Disk.file c.settle.new.disk) (g.met.D.Disk.is_told c.settle.new.disk) c.settle.ensures.any_moment

pub returns-in-Err-Damaged-clause-undamaged : goal.returns-in-Err-Damaged-clause-undamaged
returns-in-Err-Damaged-clause-undamaged g c told sound =
    let a = g.D.Disk.file c.args.disk in
    let before = (c.settle.ensures.any_moment told).0 in
    let damaged : Gives a.seen (Err c.in-Err-Damaged.place) × ((g.D.Disk.file c.settle.new.disk).seen ≡ a.seen) = search rules in
    undamaged_if a c.in-Err-Damaged.place (g.met.D.Disk.is_told c.args.disk before) sound damaged.0
