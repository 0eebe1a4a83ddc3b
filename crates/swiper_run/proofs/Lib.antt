pub mod Asking
pub mod Making
pub mod Numbering
pub mod Concluding
pub mod Replaying
pub mod Refusing
mod Reporting
pub mod Deciding
pub mod Completeness
