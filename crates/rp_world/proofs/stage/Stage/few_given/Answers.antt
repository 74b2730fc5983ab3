use Rattle.std.proofs.Common.{◌≡◌, ◌≤◌, ℕ, length, subst, sym}
use Rattle.rp_bufcore.specs.Buffers.{buffer_of, given}
use Rattle.rp_events.specs.Buffered.{Buffered, buffers_at}
use Rattle.rp_world.specs.Comes.{buffered_of}
use Rattle.rp_world.proofs.Running.{given_few}
use Rattle.rp_world.proofs.stage.Stage.few_given.Goals as goal

pub returns : goal.returns
returns c =
    subst (λ (b : Buffered). (node range : ℕ) → length (given (buffer_of (buffers_at b node) range)) ≤ 16) c.self.view_is
    (given_few (buffered_of c.self.inside.nodes) c.self.invariant.places)
