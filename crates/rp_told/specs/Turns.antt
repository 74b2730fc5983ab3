-- A lawful event at a node of a world: the node before it and after it, and what is new (this project).
use Rattle.std.specs.Prelude.{◌≡◌, List, drop, length, Some}
use Rattle.std.specs.Option.{option_map_or}
use Rattle.rp_events.specs.declared.answers.EventAnswer.{EventAnswer}
use Rattle.rp_events.specs.declared.answers.EventAnswer.TheVariants as answers
use Rattle.rp_events.specs.Nodes.{Node}
use Rattle.rp_events.specs.Worlds.{World, Scene, node_of, happens}
use Rattle.rp_events.specs.Lawful.{Lawful}
use Rattle.rp_book.specs.Books.{last_of}

-- what stands behind the front of a list that has grown
abbrev pub behind : {X : Type 0} → (front list : List X) → List X
behind front list = drop (length front) list

-- what a node answered to its last event
abbrev pub answer_of : Node → EventAnswer
answer_of n = option_map_or (λ e. e.answer) (last_of n.journal) answers.Done

-- the scene is lawful, and this is its node before it and after it
pub record Turns (w : World) (x : Scene) (n now : Node) : Type 0 where
  pub lawful : Lawful w x
  pub has : node_of w x.node ≡ Some n
  pub left : node_of (happens w x) x.node ≡ Some now
