-- What contracts see of a replica's Raft that is kept: its state, and its spare room.
use Rattle.std.specs.Prelude.{ℕ, ◌+◌, ◌^◌, ◌<◌, ◌≤◌}
use Rattle.rp_raftstep.specs.RaftState.{RaftState}
use Rattle.rp_raftstep.specs.Step.{patience}

-- the state, and how many entries its log takes without memory
pub record Held : Type 0 where
  pub raft : RaftState
  pub spare : ℕ

-- the counters are below what they are compared with, and the next index behind the base fits
pub record IsSound (st : RaftState) : Type 0 where
  pub silent : st.head.silent < patience st.head.node
  pub beat : st.head.beat < 2
  pub nodes : st.head.nodes ≤ 5
  pub base : st.log.base + 1 < 2 ^ 64
