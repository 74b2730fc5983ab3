pub mod Draws
pub mod Words
pub mod Ranges
pub mod Scripts
