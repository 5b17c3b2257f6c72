pub mod UpgradeLaws
