pub mod Cursors
pub mod Reading
pub mod Spelling
pub mod Stops
pub mod Worked
