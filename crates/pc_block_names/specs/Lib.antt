pub mod Small
pub mod Found
pub mod FoundLaws
pub mod Given
pub mod SmallLaws
