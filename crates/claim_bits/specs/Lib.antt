pub mod Seen
pub mod ClaimLaws
