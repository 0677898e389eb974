-- To be believed (definitions only):
--   Check     what the check promises       Demand2   what belongs to the profile, and that every declaration agrees
--   Texts     where a text breaks its rule   Addresses   where the mix of an address is bad
pub mod Check
pub mod Demand2
pub mod Texts
pub mod Addresses
