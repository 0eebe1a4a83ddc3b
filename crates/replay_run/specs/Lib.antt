pub mod Readings
pub mod Replies
pub mod Playings
pub mod Answers
pub mod Scripts
