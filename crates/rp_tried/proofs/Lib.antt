pub mod Coming
pub mod Latest
pub mod Ended
pub mod Seen
