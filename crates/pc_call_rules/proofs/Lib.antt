pub mod EntrySteps
pub mod ListSteps
pub mod TouchSteps
pub mod CallSteps
pub mod MeansSteps
pub mod RequiredSteps
