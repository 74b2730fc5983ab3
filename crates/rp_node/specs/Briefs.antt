-- Events of one replica in brief: the event, and what the node's journal keeps of it.
use Rattle.std.specs.Prelude.{ℕ}
use Rattle.rp_request.specs.Applied.{AppliedState}
use Rattle.rp_events.specs.declared.journals.PastEvent.{PastEvent}
use Rattle.rp_events.specs.declared.journals.PastEvent.TheVariants as past
use Rattle.rp_events.specs.declared.replica_events.ReplicaEvent.{ReplicaEvent}
use Rattle.rp_events.specs.declared.replica_events.ReplicaEvent.TheVariants as at_replica
use Rattle.rp_node.specs.declared.briefs.Brief.{Brief}
use Rattle.rp_node.specs.declared.briefs.Brief.TheVariants.{Ask, Transfer, Apply, Cut, Peek}

-- the replica's event
abbrev pub event_in_full : Brief → ReplicaEvent AppliedState
event_in_full Ask = at_replica.Ask
event_in_full (Transfer to) = at_replica.Transfer to
event_in_full Apply = at_replica.Apply
event_in_full Cut = at_replica.Cut
event_in_full (Peek key) = at_replica.Peek key

-- as the journal keeps it
abbrev pub past_in_full : (range : ℕ) → Brief → PastEvent
past_in_full range Ask = past.Ask range
past_in_full range (Transfer to) = past.Transfer range to
past_in_full range Apply = past.Apply range
past_in_full range Cut = past.Cut range
past_in_full range (Peek key) = past.Peek range key
