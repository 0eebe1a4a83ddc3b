pub mod Faults
pub mod Words
pub mod Reports
pub mod Guessed
pub mod Printed
pub mod Made
pub mod Replayed
pub mod Answers
