pub mod Ways
pub mod FoundThere
pub mod RolesAlong
pub mod Seen
pub mod Standing
pub mod TypesThere
