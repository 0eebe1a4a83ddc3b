pub mod Slots
pub mod Operations
pub mod Gated
