-- Texts   the texts of a line by their number
pub mod Texts
