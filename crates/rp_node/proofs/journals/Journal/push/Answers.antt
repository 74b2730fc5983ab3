use Rattle.std.proofs.Common.{◌≡◌, ◌+◌, IsFalse, is_some, nat_eq, length, [], ◌∷◌, ◌++◌, ◌∙◌, ap, arith, subst, sym}
use Rattle.std.specs.Map.{lookup}
use Rattle.std.proofs.lemmas.List.{length-append}
use Rattle.rp_node.specs.Journals.{entries_from, told_more}
use Rattle.rp_node.proofs.Journaling.{entry_more, kept_more}
use Rattle.rp_node.proofs.journals.Journal.push.Goals as goal

pub invariant_of-self : goal.invariant_of-self
invariant_of-self c place above =
    let told = c.self.inside.told.entries in
    let es = c.self.inside.events.list in
    let same : c.tell.new.told.entries ≡ told_more told (length es) c.args.answer.now =
    c.tell.ensures.entries ∙ ap (λ n. told_more told n c.args.answer.now) c.len.ensures in
    let long : length c.push.new.self.list ≡ length es + 1 = ap length c.push.ensures.list ∙ length-append es (c.args.event ∷ []) in
    subst (λ t. IsFalse (is_some (lookup (nat_eq place) t))) (sym same)
    (kept_more told (length es) c.args.answer.now c.self.invariant place (omega (arith, above, long)))

pub returns-clause-list : goal.returns-clause-list
returns-clause-list c =
    let told = c.self.inside.told.entries in
    let es = c.self.inside.events.list in
    let answer = c.args.answer.now in
    let same : c.tell.new.told.entries ≡ told_more told (length es) answer =
    c.tell.ensures.entries ∙ ap (λ n. told_more told n answer) c.len.ensures in
    ap (λ t. entries_from t 0 c.push.new.self.list) same
    ∙ ap (entries_from (told_more told (length es) answer) 0) c.push.ensures.list
    ∙ entry_more told es c.args.event answer c.self.invariant
    ∙ ap (λ v. v.list ++ record { event = c.args.event; answer = answer } ∷ []) c.self.view_is
