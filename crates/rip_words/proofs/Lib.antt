pub mod NameLaws
pub mod Numbers
pub mod FirstWord
