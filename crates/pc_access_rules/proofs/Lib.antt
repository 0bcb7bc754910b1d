pub mod Shapes
pub mod TypeSteps
pub mod SelectSteps
pub mod IndexSteps
pub mod MeaningSteps
pub mod JudgedSteps
pub mod PointerSteps
