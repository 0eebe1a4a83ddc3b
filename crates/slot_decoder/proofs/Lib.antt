pub mod Going
pub mod Resting
pub mod Covered
pub mod Happened
pub mod Driving
pub mod Arriving
pub mod Answering
pub mod Settling
