pub mod Appended
pub mod Causes
pub mod Files
pub mod HandedOn
pub mod InMemory
pub mod Plan
pub mod ShelfCauses
