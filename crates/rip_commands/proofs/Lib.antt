pub mod OneOutcome
pub mod RanLaws
