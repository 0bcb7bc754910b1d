pub mod Program
pub mod Blocks
pub mod Cases
