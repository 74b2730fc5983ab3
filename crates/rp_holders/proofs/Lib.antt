pub mod Leases
pub mod Refusals
pub mod Ends
