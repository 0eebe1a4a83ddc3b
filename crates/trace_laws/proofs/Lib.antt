pub mod Told
pub mod More
mod Worked
pub mod Standing
