pub mod Read
pub mod Played
