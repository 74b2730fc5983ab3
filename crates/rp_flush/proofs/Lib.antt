pub mod Finds
pub mod Numbering
pub mod Settling
pub mod Shares
