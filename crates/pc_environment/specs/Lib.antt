pub mod Decorating
pub mod DecoratingLaws
pub mod Sight
pub mod SightLaws
pub mod QuietLaws
pub mod RowLaws
