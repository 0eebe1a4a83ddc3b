pub mod Waits
pub mod Listed
pub mod Planned
pub mod Timed
