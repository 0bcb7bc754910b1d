pub mod Limit
pub mod TreeView
