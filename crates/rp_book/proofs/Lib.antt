pub mod Entries
pub mod Firsts
pub mod Fronts
pub mod Latest
pub mod Sorted
pub mod Standing
