use Rattle.std.proofs.Common.{◌≡◌, ap, ◌∙◌, subst, sym, Some}
use Rattle.rp_book.specs.Books.{Book, booking_of}
use Rattle.rp_lines.specs.Commands.{with_draw}
use Rattle.rp_lines.specs.Players.{Player}
use Rattle.rp_world.specs.contracts.worlds.World.{the_view}
use Rattle.rp_world.proofs.Telling.{drawn_book}
use Rattle.rp_world.proofs.worlds.World.set_draw.Goals as goal

pub invariant_of-self : goal.invariant_of-self
invariant_of-self c =
    let has = subst (λ (p : Player). booking_of c.args.id p.book ≡ Some (record c.args.booked.now { draw = c.requires.draw })) (sym c.self.view_is) c.requires.is in
    record {
      book = drawn_book c.self.inside.stage.nodes c.args.id (record c.args.booked.now { draw = c.requires.draw }) c.args.draw c.self.inside.book c.set_draw.new.self
          has (c.set_draw.ensures.entries (record c.args.booked.now { draw = c.requires.draw }) has) c.set_draw.ensures.told c.self.invariant.book;
      few = c.self.invariant.few;
    }

pub returns : goal.returns
returns c =
    let has = subst (λ (p : Player). booking_of c.args.id p.book ≡ Some (record c.args.booked.now { draw = c.requires.draw })) (sym c.self.view_is) c.requires.is in
    ap (λ (es : Book). record (the_view c.self.inside) { book = es }) (c.set_draw.ensures.entries (record c.args.booked.now { draw = c.requires.draw }) has)
    ∙ ap (with_draw c.args.id c.args.booked.now c.args.draw) c.self.view_is
