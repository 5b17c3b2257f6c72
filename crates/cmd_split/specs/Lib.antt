pub mod SplitOutcome
