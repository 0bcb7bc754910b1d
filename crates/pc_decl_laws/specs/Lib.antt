pub mod OwnTypes
pub mod Lines
pub mod Kinds
