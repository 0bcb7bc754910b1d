pub mod Kids
pub mod Structured
pub mod Pieces
pub mod Rows
pub mod ToldLaws
