pub mod Turns
pub mod Outcomes
pub mod Puts
pub mod Replies
