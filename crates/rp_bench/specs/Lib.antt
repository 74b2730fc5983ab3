pub mod Worked
pub mod Whence
pub mod Dues
pub mod Stations
pub mod Visits
pub mod Patience
pub mod Standings
pub mod Props
