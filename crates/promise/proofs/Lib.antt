-- Accepts    with tables long enough, the stages accept exactly what demand 2 says
-- Outcome    any two outcomes that the promise allows coincide
-- Numbers    the number of a refusal; a message belongs to the profile where it meets no refusal before 6
-- Stops      a stage stops the check with a number and a place
-- Texts      51 to 58 are given exactly where a text breaks its rule, by its flaw
-- Addresses  59 is given exactly where the mix of an address is bad
-- Demand2    DEMAND 2, of every outcome that the promise allows
pub mod Accepts
pub mod Outcome
pub mod Numbers
pub mod Stops
pub mod Texts
pub mod Addresses
pub mod Demand2
