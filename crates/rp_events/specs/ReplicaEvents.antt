-- The events of a replica: one definition for each.
use Rattle.std.specs.Prelude.{ℕ, List}
use Rattle.rp_base.specs.declared.items.Item.{Item}
use Rattle.rp_request.specs.Applied.{AppliedState}
use Rattle.rp_events.specs.declared.replica_events.ReplicaEvent.{ReplicaEvent}
use Rattle.rp_events.specs.declared.replica_events.ReplicaEvent.TheVariants.{Admit, Ask, Transfer, Collect, Flush, Tick, Deliver, Apply, Cut, Remove, Peek, Restart}
use Rattle.rp_events.specs.Replicas.{Replica, Done}
use Rattle.rp_events.specs.Admissions.{admitted}
use Rattle.rp_events.specs.LeaseAsks.{asked, transferred, collected}
use Rattle.rp_events.specs.Flushes.{flushed}
use Rattle.rp_events.specs.Refreshes.{ticked, delivered}
use Rattle.rp_events.specs.Applications.{applied}
use Rattle.rp_events.specs.Ends.{cut, removed, restarts, peeked}

-- what an event does at a tick and in a round of the node; a collect with what the buffer gave
abbrev pub event : Replica → ReplicaEvent AppliedState → (ticks round : ℕ) → (taken : List Item) → Done
event r (Admit id request) ticks round taken = admitted r id request
event r Ask ticks round taken = asked r ticks
event r (Transfer to) ticks round taken = transferred r to ticks
event r Collect ticks round taken = collected r taken
event r Flush ticks round taken = flushed r ticks round
event r Tick ticks round taken = ticked r ticks round
event r (Deliver from message) ticks round taken = delivered r from message ticks round
event r Apply ticks round taken = applied r
event r Cut ticks round taken = cut r
event r Remove ticks round taken = removed r
event r (Peek key) ticks round taken = peeked r key
event r Restart ticks round taken = restarts r
