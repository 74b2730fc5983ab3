pub mod Tries
pub mod Desks
pub mod Finals
pub mod Courses
pub mod Waits
