pub mod Form
pub mod Laws
pub mod Lines
pub mod Ranges
pub mod Replies
pub mod Texts
pub mod Vocabulary
pub mod Words
