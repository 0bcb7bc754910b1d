pub mod Block
pub mod Once
pub mod OwnTypes
pub mod Owners
pub mod BodyPlace
pub mod Touched
