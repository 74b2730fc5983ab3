use Rattle.std.proofs.Common.{nat_le, nat_lt, ◌&&◌, ap, ◌∙◌, arith}
use Rattle.std.proofs.lemmas.Result.{IfOk-weaker}
use Rattle.std.specs.FinMap.{keys, retain_keys}
use Rattle.rp_table.proofs.Edits.{keys_between}
use Rattle.rp_table.proofs.tables.Table.keys_in.Goals as goal

pub returns : goal.returns
returns c =
    IfOk-weaker c.keys_of.result _ _ (λ ks e.
    keys_between c.self.inside.rows.list c.self.invariant ks _ _ _ _ (omega (arith, c.args.span.ordered))
    c.place_of-start.ensures c.place_of-end.ensures
    e
    ∙ ap (λ h. keys (retain_keys h.map (λ k. nat_le c.args.span.start k && nat_lt k c.args.span.end))) c.self.view_is)
    c.keys_of.ensures
