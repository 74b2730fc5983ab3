pub mod Visiting
pub mod Firsts
