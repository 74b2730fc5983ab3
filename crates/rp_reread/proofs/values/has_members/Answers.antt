use Rattle.std.proofs.Common.{nat_eq, sym, ap, ◌∙◌}
use Rattle.serde_json.specs.View.{view}
use Rattle.rp_reread.proofs.JsonParts.{counted, of_object}
use Rattle.rp_reread.proofs.values.has_members.Goals as goal

pub returns-in-Some : goal.returns-in-Some
returns-in-Some c =
    ap (λ m. nat_eq m c.args.n) (c.len.ensures.len ∙ sym (counted c.in-Some.members.now.entries))
    ∙ sym (of_object (view c.args.value.now) _ c.args.n (sym c.in-Some.ensures))
