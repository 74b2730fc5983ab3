pub mod Places
pub mod Filling
pub mod Several
pub mod Kept
pub mod Rows
pub mod Shown
