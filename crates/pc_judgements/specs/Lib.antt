pub mod Judged
pub mod JudgedLaws
