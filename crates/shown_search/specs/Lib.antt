pub mod Shown
pub mod Growing
pub mod Starting
pub mod Choosing
pub mod Taken
pub mod Same
