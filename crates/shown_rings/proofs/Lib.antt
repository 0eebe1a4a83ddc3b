pub mod Rings
pub mod OneSet
