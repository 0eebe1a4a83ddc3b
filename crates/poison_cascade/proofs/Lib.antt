pub mod Supports
pub mod Windows
