pub mod SetsLaws
pub mod ArraysLaws
