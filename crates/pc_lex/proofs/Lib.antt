pub mod EachRead
pub mod Fronts
pub mod Longest
pub mod Reading
pub mod Scanning
