pub mod Worlds
pub mod Filling
