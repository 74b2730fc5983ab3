pub mod Asked
pub mod Descs
pub mod Refusals
pub mod Ends
pub mod Replies
pub mod Lists
pub mod Views
