mod Bits
mod Fields
mod Heads
mod Steps
