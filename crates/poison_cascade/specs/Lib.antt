pub mod Books
pub mod Tests
pub mod Running
