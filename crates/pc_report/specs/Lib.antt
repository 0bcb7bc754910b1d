pub mod Noted
pub mod Order
pub mod PlacesLaws
pub mod OrderLaws
pub mod AscendingLaws
pub mod InOrderLaws
pub mod ReorderLaws
