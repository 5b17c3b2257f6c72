pub mod CoveredLaws
pub mod LateLaws
pub mod MadeLaws
