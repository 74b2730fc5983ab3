pub mod Suits
pub mod Writes
pub mod Readers
pub mod FieldLaws
pub mod PayloadLaws
pub mod SpellingLaws
pub mod Stopping
pub mod WorkedBytes
