-- What is shown of a world, from its nodes, its replies and its notes.
use Rattle.std.proofs.Common.{◌≡◌, ℕ, List, length, Result, Ok, Err, sym, subst}
use Rattle.std.specs.Prelude.{IfOk}
use Rattle.std.proofs.lemmas.List.{length-map}
use Rattle.rp_events.specs.Lawful.{IsReached}
use Rattle.rp_events.specs.Worlds.{World}
use Rattle.rp_lines.specs.Players.{Player}
use Rattle.rp_lines.specs.Views.{IsViewOf, IsViewWith, replies_of}
use Rattle.rp_node.specs.Steps.{Held}
use Rattle.rp_chronicle.specs.Worlds.{world_of}
use Rattle.rp_recorded.proofs.Views.{view_shown}
use Rattle.rp_report.specs.Shown.{IsShownView}
use Rattle.rp_report.specs.declared.views.View.{View}
use Rattle.rp_request.specs.declared.notes.Note.{Note}
use Rattle.rp_request.specs.declared.notes.ReplyLine.{ReplyLine}
use Rattle.rp_top.specs.Answers.{IsOutput, written}
use Rattle.rp_words.specs.declared.asks.Form.{Form}

pub nodes_reached : {B : Type 0} (w : World) (nodes : List (Held B)) → world_of nodes ≡ w → IsReached (length w) w → IsReached (length nodes) (world_of nodes)
nodes_reached {B} w nodes same h =
    subst (λ (n : ℕ). IsReached n (world_of nodes)) (length-map nodes (λ (k : Held B). k.node))
    (subst (λ (v : World). IsReached (length v) v) (sym same) h)

pub shows_world : {B : Type 0} (w : World) (nodes : List (Held B)) (notes kept : List Note) (replies : List ReplyLine) (v : View) → world_of nodes ≡ w → kept ≡ notes
    → replies ≡ replies_of w → IsViewWith (world_of nodes) replies kept v → IsViewOf w notes v
shows_world w nodes notes kept replies v same noted told h =
    subst (λ (ns : List Note). IsViewWith w (replies_of w) ns v) noted
    (subst (λ (rs : List ReplyLine). IsViewWith w rs kept v) told
    (subst (λ (u : World). IsViewWith u replies kept v) same h))

-- so it can be written, and what is written is its output
pub can_be_written : (w : World) (notes : List Note) (v : View) → IsReached (length w) w → IsViewOf w notes v → IsShownView v
can_be_written w notes v reached h = view_shown (length w) w notes v reached h

pub output_of : (form : Form) (p : Player) (v : View) (text : List ℕ) → IsViewOf p.world.nodes p.notes v → text ≡ written form v → IsOutput form (Ok p) text
output_of form p v text shows is = (v, shows, is)

pub view_is : {B : Type 0} {E : Type 0} (res : Result View E) (w : World) (nodes : List (Held B)) (notes kept : List Note) (replies : List ReplyLine) → world_of nodes ≡ w
    → kept ≡ notes → replies ≡ replies_of w → IfOk res (IsViewWith (world_of nodes) replies kept) → IfOk res (IsViewOf w notes)
view_is (Ok v) w nodes notes kept replies same noted told h = shows_world w nodes notes kept replies v same noted told h
view_is (Err e) w nodes notes kept replies same noted told h = tt
