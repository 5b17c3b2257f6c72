pub mod OffsetsOutcome
