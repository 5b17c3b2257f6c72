pub mod AgreementLaws
pub mod PickLaws
pub mod SealingLaws
