pub mod Assigns
pub mod Counts
pub mod Steps
