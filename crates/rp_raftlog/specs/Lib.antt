pub mod Held
pub mod LogState
pub mod Pieces
