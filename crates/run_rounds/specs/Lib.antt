pub mod Rounds
pub mod Slots
pub mod Moves
pub mod Courses
pub mod Releases
pub mod Fed
