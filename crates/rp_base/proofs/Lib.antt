pub mod Bools
pub mod ClientCountLaws
pub mod Counts
pub mod Elements
pub mod IdLaws
pub mod KeyBytes
pub mod KeyLaws
pub mod LeaseLaws
pub mod NumberLaws
pub mod Powers
mod Rows
pub mod SpanLaws
pub mod SplitLaws
pub mod TextLaws
pub mod ValueLaws
