use Rattle.std.proofs.Common.{length, arith, sym, subst, ap, ◌∙◌}
use Rattle.std.specs.List.{IsDistinct}
use Rattle.std.specs.Map.{keys_of}
use Rattle.rp_base.specs.Ids.{same_id}
use Rattle.rp_pending.specs.Slots.{proposals_in, AreSound}
use Rattle.rp_pending.proofs.Finding.{compacted, no_more}
use Rattle.rp_pending.proofs.Keeping.{sound_compacted}
use Rattle.rp_pending.proofs.Passing.{none_cut}
use Rattle.rp_pending.proofs.slots.tidy.Goals as goal

pub overflow_sub-empty : goal.overflow_sub-empty
overflow_sub-empty c =
    let most = no_more c.args.slots.now.entries in omega (arith, c.requires.counted, c.len.ensures.len)

pub returns-then-empty-gt-FEW_SLOTS-clause-sound : goal.returns-then-empty-gt-FEW_SLOTS-clause-sound
returns-then-empty-gt-FEW_SLOTS-clause-sound c =
    let e = c.compact.ensures.entries in
    subst (λ fs. AreSound fs c.args.count) (sym e)
    (sound_compacted c.args.slots.now.entries _ c.requires (subst (λ fs. IsDistinct same_id (keys_of fs)) e c.compact.ensures.distinct))

pub returns-then-empty-gt-FEW_SLOTS-clause-same : goal.returns-then-empty-gt-FEW_SLOTS-clause-same
returns-then-empty-gt-FEW_SLOTS-clause-same c = ap proposals_in c.compact.ensures.entries ∙ (compacted c.args.slots.now.entries c.requires.named).0

pub returns-then-empty-gt-FEW_SLOTS-clause-kept : goal.returns-then-empty-gt-FEW_SLOTS-clause-kept
returns-then-empty-gt-FEW_SLOTS-clause-kept c same =
    let e = c.compact.ensures.entries in e ∙ none_cut _ c.args.slots.now.entries (ap length (sym e) ∙ same)
