pub mod Histories
pub mod Slots
pub mod Answers
