use Rattle.std.proofs.Common.{◌≡◌, ◌∙◌, ◌+◌, ap, arith, get_or, length}
use Rattle.rp_node.specs.Journals.{answer_at}
use Rattle.rp_node.proofs.Journaling.{answer_of, count_of}
use Rattle.rp_node.proofs.journals.Journal.answer.Goals as goal

pub returns : goal.returns
returns c e =
    let told = c.self.inside.told.entries in
    let es = c.self.inside.events.list in
    let i = c.args.place in
    let n : i ≡ 0 + i = omega arith in
    let long = ap (λ v. length v.list) c.self.view_is in
    let count = count_of told 0 es in
    c.answer_at.ensures ∙ ap (answer_at told) n ∙ answer_of told 0 i es e (omega (arith, long, count, c.requires))
    ∙ ap (λ v. (get_or v.list i e).answer) c.self.view_is
