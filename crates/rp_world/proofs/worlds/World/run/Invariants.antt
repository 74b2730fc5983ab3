use Rattle.std.proofs.Common.{◌≡◌, take, length}
use Rattle.rp_events.specs.Lawful.{IsReached}
use Rattle.rp_world.specs.Runs.{ran_all}
use Rattle.rp_world.proofs.worlds.World.run.Given as goal

-- the events so far have come
abbrev pub invariant-loop-event : goal.invariant-loop-event
invariant-loop-event l =
    (l.self ≡ ran_all (take l.event-index l.events) l.initial.self)
    × IsReached (length l.self.world.nodes) l.self.world.nodes
