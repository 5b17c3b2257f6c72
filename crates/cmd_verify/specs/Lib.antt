pub mod VerifyOutcome
