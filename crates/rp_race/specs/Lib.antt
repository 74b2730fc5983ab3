pub mod Rounds
pub mod Owed
pub mod Played
pub mod InTurn
pub mod Race
pub mod Gives
pub mod Ends
pub mod Worked
