-- Which events are lawful, as a world that runs them looks at it.
use Rattle.std.specs.Prelude.{◌≡◌, ℕ, Bool, false, not, ◌&&◌, if◌then◌else◌, List, [], ◌∷◌}
use Rattle.std.specs.Option.{option_map_or}
use Rattle.rp_base.specs.declared.ids.CmdId.{CmdId}
use Rattle.rp_request.specs.Fits.{FitsId, FitsRequest}
use Rattle.rp_request.specs.Requests.{same_request}
use Rattle.rp_request.specs.declared.requests.Request.{Request}
use Rattle.rp_events.specs.declared.world_events.WorldEvent.{WorldEvent}
use Rattle.rp_events.specs.declared.world_events.WorldEvent.TheVariants as events
use Rattle.rp_events.specs.Nodes.{is_full}
use Rattle.rp_events.specs.Worlds.{World, node_of, asked_request}
use Rattle.rp_events.specs.Lawful.{is_allowed, is_lawful, was_refused}
use Rattle.rp_events.specs.Buffered.{Buffered}
use Rattle.rp_lines.specs.Commands.{booking}
use Rattle.rp_lines.specs.Players.{Player, with_booking}
use Rattle.rp_lawful.specs.Comings.{happening_of, node_in, scene_at}
use Rattle.rp_world.specs.Plays.{happened}

-- the world has this node, and its journal is not full
abbrev pub has_room : World → (node : ℕ) → Bool
has_room w node = option_map_or (λ n. not (is_full n)) (node_of w node) false

-- the attempt was refused, and asked for this request
abbrev pub was_refused_for : World → CmdId → Request → Bool
was_refused_for w id request =
    was_refused w id && option_map_or (same_request request) (asked_request w id) false

-- what happens at the node is allowed there
abbrev pub is_allowed_in : Buffered → WorldEvent → Bool
is_allowed_in b e = option_map_or (is_allowed b.nodes (node_in e)) (happening_of b e) false

-- what happens at the node is lawful there
abbrev pub is_lawful_in : Buffered → WorldEvent → Bool
is_lawful_in b e =
    option_map_or (λ what. is_lawful b.nodes (scene_at (node_in e) what)) (happening_of b e) false

-- something happens at the node, and not in its buffers alone
abbrev pub IsAtNode : WorldEvent → Type 0
IsAtNode (events.Draw node range) = ⊥
IsAtNode (events.Publish node range place item) = ⊥
IsAtNode _ = Unit {0}

-- an event leaves what happens in the nodes and the buffers; an attempt whose admission is lawful stands in
-- the book, and all else stays
abbrev pub ran : WorldEvent → Player → Player
ran (events.Admit node range id request) p =
    happened (events.Admit node range id request)
    (if is_lawful_in p.world (events.Admit node range id request)
    then with_booking id (booking request node range) p
    else p)
ran e p = happened e p

-- one after another
abbrev pub ran_all : List WorldEvent → Player → Player
ran_all [] p = p
ran_all (e ∷ es) p = ran_all es (ran e p)

-- the numbers of an event have the widths of their types
abbrev pub FitsEvent : WorldEvent → Type 0
FitsEvent (events.Admit node range id request) = FitsId id × FitsRequest request
FitsEvent _ = Unit {0}
