pub mod Bytes
pub mod Spelled
pub mod Aligned
pub mod Outside
pub mod Read
