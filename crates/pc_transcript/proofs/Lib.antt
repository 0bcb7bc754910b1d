pub mod FillSteps
pub mod OneReply
pub mod ReplySteps
pub mod RunSteps
pub mod WordSteps
