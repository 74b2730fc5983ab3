pub mod Scripts
pub mod Gives
pub mod Status
pub mod Answers
pub mod Runs
pub mod Races
pub mod Tops
