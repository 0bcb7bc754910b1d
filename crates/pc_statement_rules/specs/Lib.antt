pub mod Handed
pub mod Controls
pub mod Given
pub mod Cases
pub mod CaseLaws
