pub mod OwnKinds
pub mod ShowsNames
pub mod Noting
pub mod NotingLaws
pub mod Walking
pub mod WalkingLaws
pub mod OwnKindsLaws
