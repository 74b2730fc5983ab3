pub mod Sound
pub mod Comings
pub mod Onward
pub mod Playable
