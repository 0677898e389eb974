-- Musts    a test and what it decides
-- Plains   plain texts and identifiers
-- Euros    sums and amounts: what stands after the whole euros, and the two together
-- Days     the parts of a date and of a time of day
-- Shapes   a front that fits a pattern and a rest of a class; what a rest and the first four leave
-- Codes    one of the words
-- Cases    texts at both sides of each bound, computed
pub mod Musts
pub mod Plains
pub mod Euros
pub mod Days
pub mod Shapes
pub mod Codes
pub mod Cases
