pub mod RowLemmas
pub mod NodeLemmas
pub mod WayLemmas
pub mod PlaceLemmas
