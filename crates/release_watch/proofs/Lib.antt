pub mod Lowering
pub mod Readying
pub mod Taking
