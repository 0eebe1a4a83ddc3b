pub mod Claims
pub mod Cores
pub mod Guessed
pub mod Turned
