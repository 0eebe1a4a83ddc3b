pub mod Entries
pub mod Keeping
pub mod Parting
pub mod Closing
pub mod Ways
pub mod Forks
pub mod OneTree
