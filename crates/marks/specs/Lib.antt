-- Marks     classes of bytes, patterns, and the numbers that bytes spell
-- Classes   a class that a closure tells
-- Ranks     the rank of a byte, and the table of all ranks
pub mod Marks
pub mod Classes
pub mod Ranks
