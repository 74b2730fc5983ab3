use Rattle.std.proofs.Common.{length, arith, sym, subst, ap, ◌∙◌}
use Rattle.std.specs.List.{IsDistinct}
use Rattle.std.specs.Map.{keys_of}
use Rattle.rp_base.specs.Ids.{same_id}
use Rattle.rp_pending.specs.Slots.{proposals_in, AreSound}
use Rattle.rp_pending.proofs.Finding.{cleared, no_more, no_slot}
use Rattle.rp_pending.proofs.Keeping.{sound_cleared}
use Rattle.rp_pending.proofs.Passing.{none_taken}
use Rattle.rp_pending.proofs.slots.clear.Goals as goal

pub returns-then-len-count-clause-new_id : goal.returns-then-len-count-clause-new_id
returns-then-len-count-clause-new_id c =
    no_slot c.args.id c.args.slots.now.entries (omega (arith, c.requires.sound.counted, c.len.ensures.len, c.if-len-count.true)) c.requires.new_id

pub returns-clause-sound : goal.returns-clause-sound
returns-clause-sound c =
    let e = c.remove.ensures.entries in
    subst (λ fs. AreSound fs c.args.count) (sym e)
    (sound_cleared c.args.id c.args.slots.now.entries _ c.requires.sound c.requires.new_id (subst (λ fs. IsDistinct same_id (keys_of fs)) e c.remove.ensures.distinct))

pub returns-clause-same : goal.returns-clause-same
returns-clause-same c = ap proposals_in c.remove.ensures.entries ∙ (cleared c.args.id c.args.slots.now.entries c.requires.new_id c.requires.sound.named).0

pub returns-clause-small : goal.returns-clause-small
returns-clause-small c =
    let most = no_more c.args.slots.now.entries in omega (arith, c.requires.sound.counted, c.len.ensures.len, c.len.ensures.small)

pub returns-clause-kept : goal.returns-clause-kept
returns-clause-kept c same =
    let e = c.remove.ensures.entries in e ∙ none_taken c.args.id c.args.slots.now.entries (ap length (sym e) ∙ same)
