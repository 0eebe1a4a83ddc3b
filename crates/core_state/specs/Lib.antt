pub mod Arrivals
pub mod States
