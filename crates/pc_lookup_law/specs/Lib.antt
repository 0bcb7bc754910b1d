pub mod ClassAt
pub mod ProgramLaw
