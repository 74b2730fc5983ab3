pub mod OddWords
pub mod Shapes
pub mod Turns
pub mod Options
pub mod Levels
pub mod Tops
pub mod Judged
