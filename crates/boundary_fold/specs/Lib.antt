pub mod Folds
pub mod Located
