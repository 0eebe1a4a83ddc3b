pub mod Certified
pub mod Read
