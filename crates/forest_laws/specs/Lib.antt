pub mod Keeping
pub mod Opening
pub mod Closing
pub mod Ways
pub mod Meeting
