pub mod OffsetsLaws
