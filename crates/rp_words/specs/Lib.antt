pub mod Words
pub mod Asked
pub mod App
pub mod Shown
