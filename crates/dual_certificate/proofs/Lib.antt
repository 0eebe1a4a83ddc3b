pub mod Crossings
pub mod Each
pub mod Edges
pub mod Fitting
