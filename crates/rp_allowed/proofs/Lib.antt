pub mod Firm
pub mod Allowed
pub mod Stepping
