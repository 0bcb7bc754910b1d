pub mod UsedNames
pub mod Answers
pub mod Needs
pub mod Unaffected
pub mod Keys
pub mod Inside
pub mod Cases
pub mod Bodies
