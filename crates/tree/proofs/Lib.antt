-- Shared   beginnings that two byte strings share      Onto    a tree's bytes and events before what follows
-- Steps    what `eat` and `span` find                  Choose  what `choose` finds
-- Right    the reader of children is right             Whole   THE THEOREMS, of every description that passes the test
-- Pain008  the theorems of the profile tree            Ways    each way of occurring, by cases
-- Cases    white space and the beginning of a message, by cases; what the reader's answers say
-- Example  the messages of the examples, byte for byte
pub mod Shared
pub mod Onto
pub mod Steps
pub mod Choose
pub mod Right
pub mod Whole
pub mod Pain008
pub mod Ways
pub mod Cases
pub mod Example
