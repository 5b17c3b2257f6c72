pub mod StepLaws
pub mod EdgeLaws
pub mod SlideLaws
