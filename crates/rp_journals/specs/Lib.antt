pub mod Growth
pub mod Entries
pub mod Asked
pub mod Ended
pub mod Elsewhere
pub mod Alike
pub mod Numbers
