pub mod Numbers
pub mod Timed
pub mod Quiet
pub mod Spread
pub mod Lined
pub mod Found
