pub mod Accessed
pub mod AccessedLaws
pub mod Indexing
pub mod Selves
pub mod Pointers
pub mod PointersLaws
