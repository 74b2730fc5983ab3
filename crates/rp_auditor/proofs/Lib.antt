pub mod Going
pub mod Meanings
pub mod PlayLaws
pub mod Walks
pub mod Yeses
