-- To be believed (definitions only):
--   Message   what a message says            Addresses   what stands in its addresses, and by what they are good
--   Verdict   the stages from 3 on, and the rows of the tables
pub mod Message
pub mod Addresses
pub mod Verdict
