pub mod Each
pub mod JsonParts
pub mod PieceLaws
