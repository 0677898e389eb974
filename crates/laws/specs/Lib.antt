-- Bytes   byte strings and what is asked of them        Put   one list put into another        Lists   sums, counts, what is kept and put together
-- Sections   finding elements by their part
pub mod Bytes
pub mod Put
pub mod Lists
pub mod Sections
