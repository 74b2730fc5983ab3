use Rattle.std.proofs.Common.{true, not, List, ◌∷◌, refl, ◌∙◌, ap}
use Rattle.rp_disk.specs.Forms.{Failing}
use Rattle.rp_disk.specs.Histories.{Call, wrote}
use Rattle.rp_disk.proofs.Steps.{moved_wrote}
use Rattle.rp_disk.proofs.memory.MemoryDiskDisk.write_at.Goals as goal

pub returns-clause-crash : goal.returns-clause-crash
returns-clause-crash c =
    let done = not c.next_fails-failed.result in
    let was = ap (λ (d : Failing). d.past.calls) c.self.view_is in
    moved_wrote true c.args.at c.args.bytes.now done true c.args.self.now.past.calls c.write.new.self.calls refl c.requires
    (c.write.ensures.calls ∙ ap (λ (l : List Call). wrote c.args.at c.args.bytes.now done ∷ l) was)
