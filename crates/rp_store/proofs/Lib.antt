pub mod Appended
pub mod Bytes
pub mod Calls
pub mod Files
pub mod Fronts
pub mod Settled
pub mod Walked
