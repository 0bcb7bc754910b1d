pub mod Codes
pub mod Obeying
pub mod ReplyLaws
pub mod State
pub mod Transcript
pub mod Words
