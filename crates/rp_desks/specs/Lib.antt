pub mod Onward
pub mod Whence
pub mod Desks
pub mod Standings
