pub mod Maps
pub mod Readings
pub mod Moving
pub mod Putting
pub mod Courses
pub mod Fed
pub mod Values
