pub mod ArrayLaws
pub mod Halves
pub mod InPlace
pub mod StepLaws
