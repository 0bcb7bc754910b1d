pub mod HandedSteps
pub mod OwnSteps
pub mod ControlSteps
pub mod RecordLaws
pub mod SamenessSteps
pub mod GivenSteps
pub mod CaseSteps
