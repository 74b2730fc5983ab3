pub mod Units
pub mod Shares
