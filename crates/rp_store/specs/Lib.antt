pub mod Answers
pub mod Records
pub mod Stores
pub mod Walks
