pub mod Views
pub mod Scenes
pub mod Standing
pub mod Steps
pub mod Turned
