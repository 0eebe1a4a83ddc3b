pub mod Placed
pub mod Bits
pub mod Slots
pub mod Indexed
pub mod Seen
