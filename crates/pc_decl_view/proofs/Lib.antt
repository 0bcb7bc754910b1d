pub mod Rows
pub mod LaterTables
pub mod KeptTypes
pub mod KeptNames
pub mod KeptRoutines
