pub mod Records
pub mod Beside
