pub mod Names
pub mod Rows
pub mod Constants
pub mod Types
pub mod Operands
