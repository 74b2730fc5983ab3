pub mod Hands
pub mod Machine
pub mod Slots
pub mod Plays
pub mod Passes
pub mod Collects
pub mod Lefts
