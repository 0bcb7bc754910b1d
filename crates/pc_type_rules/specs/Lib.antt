pub mod Extends
pub mod ExtendsLaws
pub mod Denoted
pub mod Judged
pub mod Records
pub mod RecordsLaws
pub mod Arrays
