-- Limits    the limits of document 01                Refusals   the number, place and field of each refusal
-- Numbers   the numbers of the refusals               Flaws      the flaw that a number names
-- Totals    what is declared, and the running tally
pub mod Limits
pub mod Totals
pub mod Refusals
pub mod Numbers
pub mod Flaws
