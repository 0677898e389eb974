-- Dates     dates as numbers         Terms   terms, and terms as numbers
-- Lines     the terms of a line, byte by byte, and the lines of a list by their starts
-- Goods     a list that is judged good has none but good values
-- Batches   the batches of a good list, by the numbers of its collections' terms
-- Found     its values, found by the starts of its lines, and its labels
-- Cases     what the list of the examples says
pub mod Dates
pub mod Terms
pub mod Lines
pub mod Goods
pub mod Batches
pub mod Found
pub mod Cases
