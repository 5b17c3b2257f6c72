pub mod LineLaws
pub mod SoundLaws
pub mod TextLaws
pub mod ReadingLaws
