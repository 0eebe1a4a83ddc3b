pub mod Cuts
pub mod Sets
pub mod Marked
pub mod Reading
