pub mod Constructions
pub mod StepLaws
pub mod Turns
