pub mod RaftState
pub mod Step
pub mod Conditions
pub use Rattle.rp_raftlog.specs.LogState
