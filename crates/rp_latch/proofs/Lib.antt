pub mod Elements
pub mod Places
pub mod Ids
pub mod Order
pub mod Apart
pub mod Conflicts
pub mod Freed
