pub mod FieldPlaces
pub mod Pairs
pub mod RecordNames
pub mod OpenedSteps
pub mod OwnPlaces
pub mod FieldsSeen
