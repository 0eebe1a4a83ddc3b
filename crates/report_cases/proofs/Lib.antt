pub mod Arriving
pub mod OneSlot
