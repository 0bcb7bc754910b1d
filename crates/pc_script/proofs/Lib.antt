pub mod CommandSteps
pub mod IntakeSteps
pub mod LineSteps
pub mod ReadingSteps
