pub mod Opened
pub mod OpenedLaws
pub mod Withs
pub mod WithLaws
pub mod Meeting
pub mod MeetingLaws
pub mod TouchedLog
pub mod TouchedLaws
