-- Bundle   the batches of a list, how many are needed, and what it is to carry the collections of a list
-- Labels   the number of each collection's batch, and codes for terms        Limits   the limits of a day list
pub mod Bundle
pub mod Labels
pub mod Limits
