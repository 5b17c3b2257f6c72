pub mod MatchedLaws
pub mod MovedLaws
pub mod SpanLaws
pub mod StopLaws
