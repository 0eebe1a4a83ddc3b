mod Answered
mod Lines
mod Spelled
