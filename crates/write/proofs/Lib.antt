-- Rounds   the batches one by one        Readies   a good list has all that its writers ask        Answers   the answer and the output, case by case
-- Cases    the answers on the list of the examples, computed
pub mod Rounds
pub mod Readies
pub mod Answers
pub mod Cases
