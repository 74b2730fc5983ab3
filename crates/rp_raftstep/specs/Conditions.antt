-- What the calls of a replica's Raft ask for.
use Rattle.std.specs.Prelude.{◌≡◌, ℕ, ◌+◌, ◌^◌, ◌<◌, ◌≤◌, Some, List, length, slice_get}
use Rattle.rp_raftlog.specs.declared.entries.Entry.{Entry}
use Rattle.rp_raftlog.specs.LogState.{last_index, term_at}
use Rattle.rp_raftstep.specs.declared.messages.Message.{Message}
use Rattle.rp_raftstep.specs.declared.messages.Message.TheVariants.{Vote, VoteReply, Append, AppendReply, Forward, Snap}
use Rattle.rp_raftstep.specs.declared.events.RaftEvent.{RaftEvent}
use Rattle.rp_raftstep.specs.declared.events.RaftEvent.TheVariants.{Tick, Receive, Propose, Cut}
use Rattle.rp_raftstep.specs.RaftState.{RaftState}

-- entries behind an index, above the base and up to the commit index, have the log's terms
abbrev pub FitsCommitted : RaftState → ℕ → List Entry → Type 0
FitsCommitted st prev_index entries =
    (k : ℕ) (entry : Entry) → slice_get entries k ≡ Some entry → st.log.base < prev_index + k + 1 → prev_index + k + 1 ≤ st.head.commit
    → term_at st.log (prev_index + k + 1) ≡ Some entry.term

-- the term and the last index can rise by one
pub record CanRise (st : RaftState) : Type 0 where
  pub term : st.head.term + 1 < 2 ^ 64
  pub last : last_index st.log + 1 < 2 ^ 64

-- so many payloads can be appended
abbrev pub CanAppend : RaftState → List (List ℕ) → Type 0
CanAppend st payloads = last_index st.log + length payloads < 2 ^ 64

-- the indexes of a message stay below their ends
abbrev pub MessageFits : {S : Type 0} → Message S → Type 0
MessageFits (Vote term index index_term) = Unit {0}
MessageFits (VoteReply term granted) = Unit {0}
MessageFits (Append term prev_index prev_term entries commit) = prev_index + length entries < 2 ^ 64
MessageFits (AppendReply term ok index) = Unit {0}
MessageFits (Forward payload) = Unit {0}
MessageFits (Snap term index index_term snapshot) = index + 1 < 2 ^ 64

-- an event that may be planned: its numbers stay below their ends, and a Cut lies in the log
abbrev pub Allows : {S : Type 0} → RaftState → RaftEvent S → Type 0
Allows st Tick = CanRise st
Allows st (Receive from message) = CanRise st × MessageFits message
Allows st (Propose payloads) = CanRise st × CanAppend st payloads
Allows st (Cut to) = CanRise st × (st.log.base ≤ to) × (to ≤ last_index st.log)
