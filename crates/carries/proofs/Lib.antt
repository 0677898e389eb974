-- Cases      what one message carries
-- Fewest     no accepted message that carries a list within the ceiling has fewer batches
-- Said       what a message says is what the elements of its tree hold
-- Finds      so what is found in it is found among the contents
-- Exact      the exact counts and cents are those of the collections carried; acceptance by the contents
-- Held       the contents of the written message
-- Among      finding elements among contents that are put together from pieces
-- Collected  what the contents of the written message carry
-- Written    the written message is accepted and carries its batches
-- Sums       the same collections count and sum alike
-- Demand3    the batches of a list: their message, the fewest, and when there is none
-- Lists      the same of every list that is judged good
pub mod Cases
pub mod Fewest
pub mod Said
pub mod Finds
pub mod Exact
pub mod Held
pub mod Among
pub mod Collected
pub mod Written
pub mod Sums
pub mod Demand3
pub mod Lists
