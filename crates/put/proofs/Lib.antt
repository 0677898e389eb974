-- Writes   the laws of `Wrote`, and of numbers as they are written
pub mod Writes
