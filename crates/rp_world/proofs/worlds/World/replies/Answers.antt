use Rattle.std.proofs.Common.{◌≡◌, List, length, sym, subst}
use Rattle.std.specs.Prelude.{IfOk}
use Rattle.rp_request.specs.declared.notes.ReplyLine.{ReplyLine}
use Rattle.rp_events.specs.Lawful.{IsReached}
use Rattle.rp_lines.specs.Players.{Player}
use Rattle.rp_lines.specs.Views.{replies_of}
use Rattle.rp_world.proofs.Replying.{replies_by_book}
use Rattle.rp_world.proofs.worlds.World.replies.Goals as goal

pub returns : goal.returns
returns c =
    let w = c.self.inside.stage.nodes in
    subst (λ (p : Player). IfOk c.replies.result (λ r. r ≡ replies_of p.world.nodes)) c.self.view_is
    (subst (λ (lines : List ReplyLine). IfOk c.replies.result (λ r. r ≡ lines))
    (replies_by_book (length w) w c.self.inside.book
    (subst (λ (p : Player). IsReached (length p.world.nodes) p.world.nodes) (sym c.self.view_is) c.requires)
    c.self.invariant.book)
    c.replies.ensures)
