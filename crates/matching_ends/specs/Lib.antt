pub mod Mated
pub mod Named
