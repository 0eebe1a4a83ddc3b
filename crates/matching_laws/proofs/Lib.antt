pub mod Bounds
pub mod Hanging
pub mod Turning
pub mod Ways
pub mod Closing
pub mod Opening
pub mod Uncut
pub mod Examples
