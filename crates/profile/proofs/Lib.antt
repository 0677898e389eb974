-- Faults   a refusal is known by its number, its place and its field
pub mod Faults
