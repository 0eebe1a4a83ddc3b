mod Items
mod SlotRows
mod Lines
mod Feeds
mod Playing
mod Ending
mod Replying
mod Stepping
pub mod Faultless
