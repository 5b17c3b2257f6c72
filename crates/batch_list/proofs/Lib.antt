pub mod ReadingLaws
pub mod ListLaws
