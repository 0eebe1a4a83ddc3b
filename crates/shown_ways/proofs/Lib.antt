pub mod Climbing
pub mod Way
