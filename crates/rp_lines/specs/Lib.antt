pub mod Players
pub mod Commands
pub mod Settling
pub mod Scripts
pub mod Views
pub mod Worked
