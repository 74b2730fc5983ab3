pub mod Accepted
pub mod Cuts
pub mod InSegments
pub mod Overlays
