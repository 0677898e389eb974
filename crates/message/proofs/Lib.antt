-- Mixes    the mix of an address as one formula
-- Cases    the definitions at work on the message of the examples      AddressCases   the same of addresses
pub mod Mixes
pub mod Cases
pub mod AddressCases
