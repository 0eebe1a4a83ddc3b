pub mod Signed
pub mod Lines
mod Reading
