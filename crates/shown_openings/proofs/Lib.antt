pub mod Rounds
pub mod Children
pub mod Chains
pub mod Whole
