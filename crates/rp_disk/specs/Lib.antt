pub mod Files
pub mod Forms
pub mod Histories
pub mod Told
