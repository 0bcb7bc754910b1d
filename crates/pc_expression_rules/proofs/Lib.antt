pub mod OperatorSteps
pub mod ResultSteps
pub mod ConstantSteps
pub mod MemberSteps
