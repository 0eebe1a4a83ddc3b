pub mod Searching
pub mod Stars
pub mod Least
pub mod Rows
pub mod Ways
pub mod Routes
pub mod Homeward
