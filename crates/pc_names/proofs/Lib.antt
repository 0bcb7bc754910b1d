pub mod ChainSteps
pub mod NumberSteps
pub mod SlotSteps
