pub mod Held
pub mod Plans
pub mod Quiet
pub use Rattle.rp_raftlog.specs.LogState
pub use Rattle.rp_raftstep.specs.RaftState
pub use Rattle.rp_raftstep.specs.Step
pub use Rattle.rp_raftstep.specs.Conditions
