pub mod Rules
pub mod Latest
pub mod Replies
pub mod Verdicts
pub mod Judging
