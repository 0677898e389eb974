-- Checks   demands 1 and 2, of a check        Writes   demands 1 to 3, of what the writer answers and leaves
-- Hold     the three demands, and requests 1 and 3, hold   Cases    the check's definitions at work on the message of the examples
-- Flaws    each of 51 to 58 is the number of a flaw
pub mod Flaws
pub mod Checks
pub mod Writes
pub mod Hold
pub mod Cases
