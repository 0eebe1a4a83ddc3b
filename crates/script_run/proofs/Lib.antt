pub mod Acting
pub mod Printing
pub mod Telling
