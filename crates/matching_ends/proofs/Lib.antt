pub mod Leaving
pub mod Mating
pub mod Naming
pub mod Examples
