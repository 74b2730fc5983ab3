pub mod Bounds
pub mod Dues
pub mod Proposals
pub mod Refreshes
pub mod Slots
pub mod Turns
