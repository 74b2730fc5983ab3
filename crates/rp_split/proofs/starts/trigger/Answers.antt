use Rattle.std.proofs.Common.{refl, sym, ◌∙◌}
use Rattle.rp_split.proofs.starts.trigger.Goals as goal

-- the right range starts with the right one of the two parts that are made
pub returns : goal.returns
returns c lai =
    let split = sym c.split_at.ensures ∙ c.unwrap-left.ensures in
    rw (split, c.in_ok-table.ensures) refl
