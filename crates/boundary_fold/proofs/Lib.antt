pub mod Sets
pub mod Links
pub mod Placed
pub mod Fits
pub mod Folded
pub mod Tabled
