pub mod Apart
pub mod Joined
pub mod Paths
pub mod Chained
pub mod Writes
pub mod Left
pub mod Singles
