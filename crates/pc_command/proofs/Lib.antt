pub mod TextSteps
pub mod WordSteps
