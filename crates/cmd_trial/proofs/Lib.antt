pub mod QuietLaws
pub mod TrialLaws
pub mod TrialTextLaws
