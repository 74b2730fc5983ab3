use Rattle.std.proofs.Common.{true, IsTrue, List, ◌∷◌, ◌∙◌, ap, rules}
use Rattle.rp_disk.specs.Forms.{Sound}
use Rattle.rp_disk.specs.Histories.{Call, Past, synced}
use Rattle.rp_disk.proofs.Steps.{moved_synced}
use Rattle.rp_disk.proofs.sound.SoundDiskDisk.sync.Goals as goal

pub returns-then-keeps-clause-crash : goal.returns-then-keeps-clause-crash
returns-then-keeps-clause-crash c =
    let told : IsTrue c.args.self.now.tells = search rules in
    let was = ap (λ (d : Sound). d.past.calls) c.self.view_is ∙ ap (λ (p : Past). p.calls) c.keeps.ensures.past in
    moved_synced c.args.self.now.tells true c.self.inside.whole c.args.self.now.past.calls c.note_sync.new.self.calls told
    (c.note_sync.ensures.calls ∙ ap (λ (l : List Call). synced true ∷ l) was)
