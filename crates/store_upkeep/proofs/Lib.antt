pub mod EntryLaws
pub mod LookLaws
