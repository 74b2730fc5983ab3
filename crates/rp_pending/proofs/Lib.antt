pub mod Ascending
pub mod Blocks
pub mod Finding
pub mod Keeping
pub mod Lookups
pub mod Parting
pub mod Passing
pub mod Reading
