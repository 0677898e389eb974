-- To be believed (definitions only):
--   Carried    what a message carries, and what it is to carry the collections of a list
pub mod Carried
-- Contents   what the elements of a tree hold, without their places        Held   what the written message holds
pub mod Contents
pub mod Held
