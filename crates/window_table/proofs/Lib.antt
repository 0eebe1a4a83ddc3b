pub mod Claims
pub mod Guesses
pub mod Named
pub mod Told
