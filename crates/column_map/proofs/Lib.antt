pub mod MendingLaws
pub mod PlaceLaws
pub mod TableWords
