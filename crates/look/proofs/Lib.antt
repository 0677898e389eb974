-- Looks   what a look at a text has seen, in plain variables
pub mod Looks
