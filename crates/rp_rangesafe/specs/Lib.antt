pub mod Attempts
pub mod Along
pub mod World
pub mod Places
pub mod Ranges
