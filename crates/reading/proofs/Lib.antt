pub mod PartLaws
pub mod StepLaws
pub mod StoreLaws
pub mod TextLaws
pub mod TrackLaws
