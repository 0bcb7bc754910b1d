pub mod Routines
pub mod Signatures
pub mod Touches
pub mod Inside
pub mod Unsigned
pub mod Changed
