pub mod Views
pub mod Gifts
pub mod Rules
pub mod Plays
pub mod Calm
pub mod Seats
pub mod Openings
pub mod Closings
