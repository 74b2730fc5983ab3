pub mod Raced
pub mod Hands
