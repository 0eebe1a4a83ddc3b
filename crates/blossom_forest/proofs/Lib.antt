pub mod Sets
pub mod Fresh
pub mod Ways
pub mod Marks
pub mod Ends
pub mod Rounds
pub mod Joining
pub mod Evens
