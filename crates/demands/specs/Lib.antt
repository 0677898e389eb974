-- Demands   the customer's three demands, as claims about the operations (to be believed: that these are the demands)
pub mod Demands
