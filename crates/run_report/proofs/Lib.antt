pub mod Spelled
pub mod Claimed
pub mod Ranges
pub mod Joined
pub mod Cores
