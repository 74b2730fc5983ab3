use Rattle.rp_auditor.proofs.PlayLaws.{answers_split}
use Rattle.rp_auditor.proofs.standings.Standing.answer.Goals as goal

pub returns-in-Split : goal.returns-in-Split
returns-in-Split c =
    answers_split c.args.self.now _ c.args.item.now c.in-Split.id c.in-Split.key c.in-Split.right c.in-Split.seq c.answer_with-in-Split.result c.in-Split.is c.answer_with-in-Split.ensures
