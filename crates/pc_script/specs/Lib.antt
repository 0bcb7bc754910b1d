pub mod Ahead
pub mod Causes
pub mod Intake
pub mod Reading
pub mod Script
pub mod ScriptLaws
