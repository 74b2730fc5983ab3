use Rattle.std.proofs.Common.{◌∙◌, ap}
use Rattle.rp_base.specs.Ids.{same_id}
use Rattle.rp_racelines.specs.Latest.{told_first, told_in}
use Rattle.rp_racelines.proofs.Noting.{told_more}
use Rattle.rp_racelines.proofs.attempts.note_end.Goals as goal

pub returns-then-is_none : goal.returns-then-is_none
returns-then-is_none c id =
    ap (λ es. told_in es id) c.put_end.ensures
    ∙ told_more c.reserve.new.self.entries c.args.ended.now.id id c.args.ended.now.outcome
    ∙ ap (λ es. told_first (told_in es id) (same_id c.args.ended.now.id id) c.args.ended.now.outcome) c.reserve.ensures.entries
