mod Rights
mod Places
mod Frames
mod Lifts
mod Given
mod Nows
mod Sights
mod Taking
mod Quiet
mod Went
mod Giving
mod Posting
mod Parting
mod Opening
mod Calls
mod Closing
pub mod Backing
