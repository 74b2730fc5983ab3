use Rattle.std.proofs.Common.{◌≡◌, Bool, true, false, ap, sym, subst, ◌∙◌, Option}
use Rattle.std.specs.Option.{option_copied}
use Rattle.std.specs.Prelude.{is_some}
use Rattle.rp_lines.specs.Players.{Player}
use Rattle.rp_events.specs.Lawful.{was_refused}
use Rattle.rp_world.specs.Runs.{was_refused_for}
use Rattle.rp_world.proofs.Running.{refused_for, refused_none}
use Rattle.rp_world.proofs.worlds.World.was_refused_for.Goals as goal

pub returns-then-was_refused : goal.returns-then-was_refused
returns-then-was_refused c =
    subst (λ (p : Player). c.is_same.result ≡ was_refused_for p.world.nodes c.args.id c.args.request.now) c.self.view_is
    (c.is_same.ensures
    ∙ refused_for c.self.inside.stage.nodes c.args.id c.args.request.now c.in-Some.booked.now.request
    (subst (λ (p : Player). was_refused p.world.nodes c.args.id ≡ true) (sym c.self.view_is) (sym c.was_refused.ensures ∙ c.if-was_refused.true))
    (c.self.invariant.book.requests c.args.id c.in-Some.booked.now (sym c.get.ensures ∙ ap option_copied c.in-Some.is)))

pub returns-in-None : goal.returns-in-None
returns-in-None c =
    subst (λ (p : Player). false ≡ was_refused_for p.world.nodes c.args.id c.args.request.now) c.self.view_is
    (refused_none c.self.inside.stage.nodes c.args.id c.args.request.now
    (sym (c.self.invariant.book.asked c.args.id) ∙ ap is_some (sym c.get.ensures ∙ ap option_copied c.in-None.is)))
