pub mod Sending
pub mod Noting
pub mod Telling
pub mod Scripted
pub mod Longest
pub mod Judged
pub mod Showing
