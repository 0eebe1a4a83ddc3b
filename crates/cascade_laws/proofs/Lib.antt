pub mod Committed
pub mod Entries
pub mod Events
pub mod Scans
pub mod Laws
pub mod Storing
pub mod FirstTurns
pub mod Claiming
