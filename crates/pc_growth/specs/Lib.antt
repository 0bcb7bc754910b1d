pub mod Grows
pub mod GrowsLaws
