pub mod Books
pub mod Keeping
pub mod Handling
pub mod Queueing
