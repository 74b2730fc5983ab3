use Rattle.std.proofs.Common.{◌∙◌, ap, map}
use Rattle.std.specs.List.{list_all}
use Rattle.rp_racelines.specs.Judging.{ends_whole}
use Rattle.rp_racelines.proofs.Judged.{whole_tested}
use Rattle.rp_racelines.proofs.race_ends.is_whole.Goals as goal

pub returns : goal.returns
returns g c = whole_tested (map (λ h. h.node) c.args.nodes.now) c.are_whole.result
    (c.are_whole.ensures ∙ ap (λ xs. list_all (λ n. ends_whole n.journal) (map (λ h. h.node) xs)) c.as_slice.ensures)
