pub mod Held
pub mod Place
