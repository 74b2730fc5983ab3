pub mod Letters
pub mod Inside
pub mod Mails
pub mod Playing
pub mod Turns
