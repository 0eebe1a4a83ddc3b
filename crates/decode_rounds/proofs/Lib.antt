pub mod Releasing
pub mod Courses
pub mod Tellings
mod Unread
pub mod Brought
pub mod AllRows
pub mod Ended
pub mod Meeting
pub mod Concluded
