pub mod Handing
pub mod Plans
pub mod Rooms
pub mod Waits
pub mod Turns
pub mod Ends
pub mod Refreshing
pub mod Quiet
