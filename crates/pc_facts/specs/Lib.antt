pub mod Known
pub mod Shows
pub mod EntriesLaws
