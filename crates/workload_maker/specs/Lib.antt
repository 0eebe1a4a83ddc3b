pub mod Headers
pub mod Draws
pub mod Digits
pub mod Inputs
pub mod Made
pub mod Turns
