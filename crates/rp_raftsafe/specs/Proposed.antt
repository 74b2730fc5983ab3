-- Where the payloads of logs and messages come from.
use Rattle.std.specs.Prelude.{◌≡◌, ℕ, ◌⊎◌, List, [], All, Contains, flat_map}
use Rattle.rp_raftlog.specs.declared.entries.Entry.{Entry}
use Rattle.rp_raftstep.specs.declared.messages.Message.{Message}
use Rattle.rp_raftstep.specs.declared.messages.Message.TheVariants.{Vote, VoteReply, Append, AppendReply, Forward, Snap}
use Rattle.rp_raftstep.specs.Step.{nothing}
use Rattle.rp_raftsafe.specs.World.{Action, Begin, Ticks, Proposes, Applies, Cuts, Removes, Restarts, Event, Acts, Comes}

-- the payloads that an event hands to Raft
abbrev pub action_payloads : Action → List (List ℕ)
action_payloads Begin = []
action_payloads (Ticks again) = again
action_payloads (Proposes payloads) = payloads
action_payloads Applies = []
action_payloads Cuts = []
action_payloads Removes = []
action_payloads Restarts = []

abbrev pub event_payloads : Event → List (List ℕ)
event_payloads (Acts node action) = action_payloads action
event_payloads (Comes from number again) = again

-- the payloads that a schedule hands to Raft
abbrev pub payloads_of : List Event → List (List ℕ)
payloads_of events = flat_map event_payloads events

-- a payload is Nothing, or the schedule handed it to Raft
abbrev pub WasProposed : List Event → List ℕ → Type 0
WasProposed events payload = (payload ≡ nothing) ⊎ Contains (payloads_of events) payload

-- the payloads that a message carries have a property
abbrev pub MessageCarries : {S : Type 0} → (List ℕ → Type 0) → Message S → Type 0
MessageCarries P (Vote term index index_term) = Unit {0}
MessageCarries P (VoteReply term granted) = Unit {0}
MessageCarries P (Append term prev_index prev_term entries commit) = All (λ (entry : Entry). P entry.payload) entries
MessageCarries P (AppendReply term ok index) = Unit {0}
MessageCarries P (Forward payload) = P payload
MessageCarries P (Snap term index index_term snapshot) = Unit {0}
