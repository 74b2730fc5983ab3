pub mod ReadsSource
pub mod RunProof
pub mod RaceProof
pub mod TopProof
pub mod Playing
pub mod Showing
