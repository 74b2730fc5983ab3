use Rattle.std.proofs.Common.{◌<◌, length, refl, sym, ap, ◌∙◌, arith}
use Rattle.std.proofs.lemmas.Option.{slice_get_read}
use Rattle.std.specs.List.{slice_get}
use Rattle.std.specs.FinMap.{len, entries}
use Rattle.rp_table.proofs.Edits.{len_here, entries_here}
use Rattle.rp_table.proofs.tables.Table.row.Goals as goal

pub at-requires : goal.at-requires
at-requires c =
    let held = ap (λ h. len h.map) c.self.view_is in
    omega (arith, len_here c.self.inside.rows.list c.self.invariant, held)

pub returns : goal.returns
returns c =
    let held = ap (λ h. len h.map) c.self.view_is in
    let here : c.args.at < length c.self.inside.rows.list = omega (arith, len_here c.self.inside.rows.list c.self.invariant, held) in
    ap (λ h. slice_get (entries h.map) c.args.at) (sym c.self.view_is)
    ∙ ap (λ es. slice_get es c.args.at) (entries_here c.self.inside.rows.list c.self.invariant)
    ∙ slice_get_read c.self.inside.rows.list _ c.args.at _ refl here c.at.ensures
