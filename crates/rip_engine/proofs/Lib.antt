pub mod AgainLaws
pub mod Ending
pub mod Headline
pub mod MergeLaws
pub mod RequestLaws
pub mod StoredLaws
