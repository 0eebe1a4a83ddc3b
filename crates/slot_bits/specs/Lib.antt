pub mod Order
pub mod Shared
pub mod Lines
pub mod Seen
pub mod Observed
pub mod Watched
