use Rattle.std.proofs.Common.{ap}
use Rattle.rp_events.specs.Buffered.{Buffered}
use Rattle.rp_world.proofs.Starting.{kept_first}
use Rattle.rp_world.proofs.worlds.World.start.Goals as goal

pub invariant_of-result : goal.invariant_of-result
invariant_of-result c =
    kept_first c.args.nodes c.in_ok-stage.stage.nodes c.new-book.result (ap (λ (b : Buffered). b.nodes) c.in_ok-stage.ensures) c.new-book.ensures.entries c.new-book.ensures.told
