pub mod Holds
pub mod Indexes
