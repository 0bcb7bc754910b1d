pub mod PartTypes
pub mod ToldText
