pub mod Lawful
pub mod Early
pub mod Limits
pub mod Shared
pub mod Scattered
pub mod Rows
pub mod Named
