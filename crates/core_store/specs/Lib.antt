pub mod Tickets
pub mod Timelines
