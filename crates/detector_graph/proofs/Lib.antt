pub mod Searches
mod FlatRows
mod EdgesBelow
mod Marks
pub mod Grouped
mod Homes
