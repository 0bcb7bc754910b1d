pub mod Items
pub mod Noted
pub mod NotedLaws
