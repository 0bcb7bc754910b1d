pub mod NumberSteps
pub mod NodeSteps
pub mod MadeSteps
pub mod SubrangeSteps
pub mod RecordSteps
pub mod ArraySteps
