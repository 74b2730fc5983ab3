use Rattle.std.proofs.Common.{true, not, List, ◌∷◌, refl, ◌∙◌, ap}
use Rattle.rp_disk.specs.Forms.{Failing}
use Rattle.rp_disk.specs.Histories.{Call, synced}
use Rattle.rp_disk.proofs.Steps.{moved_synced}
use Rattle.rp_disk.proofs.memory.MemoryDiskDisk.sync.Goals as goal

pub returns-clause-crash : goal.returns-clause-crash
returns-clause-crash c =
    let done = not c.next_fails-failed.result in
    let was = ap (λ (d : Failing). d.past.calls) c.self.view_is in
    moved_synced true done true c.args.self.now.past.calls c.note_sync.new.self.calls refl (c.note_sync.ensures.calls ∙ ap (λ (l : List Call). synced done ∷ l) was)
