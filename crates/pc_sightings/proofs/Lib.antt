pub mod OpenedSteps
pub mod MeetingSteps
pub mod TouchedSteps
