pub mod UpgradeOutcome
