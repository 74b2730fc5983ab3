use Rattle.std.proofs.Common.{true, IsTrue, List, ◌∷◌, ◌∙◌, ap, rules}
use Rattle.rp_disk.specs.Forms.{Sound}
use Rattle.rp_disk.specs.Histories.{Call, Past, wrote}
use Rattle.rp_disk.proofs.Steps.{moved_wrote}
use Rattle.rp_disk.proofs.sound.SoundDiskDisk.write_at.Goals as goal

pub returns-then-keeps-clause-crash : goal.returns-then-keeps-clause-crash
returns-then-keeps-clause-crash c =
    let told : IsTrue c.args.self.now.tells = search rules in
    let was = ap (λ (d : Sound). d.past.calls) c.self.view_is ∙ ap (λ (p : Past). p.calls) c.keeps.ensures.past in
    moved_wrote c.args.self.now.tells c.args.at c.args.bytes.now true c.self.inside.whole c.args.self.now.past.calls c.write.new.self.calls told (c.requires told)
    (c.write.ensures.calls ∙ ap (λ (l : List Call). wrote c.args.at c.args.bytes.now true ∷ l) was)
