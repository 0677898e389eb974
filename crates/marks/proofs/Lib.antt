-- Classes   what a class says of a byte, and each class by cases
-- Letters   the letter set, of each byte and of each mark
-- Slashes   a loop that looks for slashes
-- Ranks     what the rank of a byte says
-- Numbers   the number that a text spells
pub mod Classes
pub mod Letters
pub mod Slashes
pub mod Ranks
pub mod Numbers
