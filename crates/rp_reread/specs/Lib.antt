pub mod Ends
pub mod Faults
pub mod Forms
pub mod Pieces
pub mod Readers
pub mod Reading
pub mod Records
pub mod Requests
