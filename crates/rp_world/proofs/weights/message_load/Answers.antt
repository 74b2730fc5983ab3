use Rattle.std.proofs.Common.{◌≡◌, ℕ, ◌≤◌, length, min, sym, ap, ◌∙◌, arith}
use Rattle.std.specs.FinMap.{entries, len-entries}
use Rattle.rp_lines.specs.Players.{load_of}
use Rattle.rp_world.specs.Weighing.{capped}
use Rattle.rp_world.proofs.Loads.{small_capped}
use Rattle.rp_world.proofs.weights.message_load.Goals as goal

pub returns-in-Snap : goal.returns-in-Snap
returns-in-Snap c = small_capped c.rows.result (length (entries c.in-Snap.snapshot.table)) (c.rows.ensures ∙ len-entries c.in-Snap.snapshot.table) (omega arith)
    ∙ ap (λ m. capped (load_of m)) (sym c.in-Snap.is)
