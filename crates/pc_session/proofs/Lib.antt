pub mod FillSteps
pub mod LineSteps
pub mod LoadSteps
pub mod OneSteps
pub mod ProgramSteps
pub mod RangeSteps
