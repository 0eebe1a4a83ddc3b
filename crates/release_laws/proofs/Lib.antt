pub mod Counting
pub mod Following
pub mod Releasing
pub mod Teleported
