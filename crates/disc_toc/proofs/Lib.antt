pub mod DifferenceLaws
pub mod JoinedLaws
pub mod LayoutLaws
