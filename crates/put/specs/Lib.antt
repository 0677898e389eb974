-- Numerals   numbers as they are written      Wrote   what a writer promises
pub mod Numerals
pub mod Wrote
