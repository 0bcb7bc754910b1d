pub mod Parameters
pub mod Purposes
pub mod Calls
