-- Leads    a number read high byte first        Judging   the fields of a line, one by one
-- Ends     where a line ends                    Walking   the stages as walks over the lines
-- Stops    what the stages find
-- Goods    what a good list is
-- Early    the refusals of a list that is judged are 21 to 25 and 51 to 58
-- Breaks   51 to 58 are given exactly where a value breaks its rule
-- Cases    some lists and what is reported of each, computed; the list of the examples
pub mod Leads
pub mod Judging
pub mod Ends
pub mod Walking
pub mod Stops
pub mod Goods
pub mod Early
pub mod Cases
pub mod Breaks
