pub mod Learning
pub mod Steps
pub mod Commands
