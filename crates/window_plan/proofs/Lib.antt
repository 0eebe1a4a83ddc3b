pub mod Grouped
pub mod Ranked
pub mod Levels
pub mod Gathered
pub mod Surveyed
pub mod Filled
pub mod Tables
pub mod Assembled
