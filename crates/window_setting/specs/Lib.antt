pub mod Settings
pub mod Slots
pub mod Defects
