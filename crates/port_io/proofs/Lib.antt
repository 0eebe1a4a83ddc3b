pub mod Traffic
pub mod Takings
