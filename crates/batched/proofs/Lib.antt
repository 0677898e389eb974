-- Leads   the lead of a collection    Picks   the collections of a label, one by one          Going   a loop of writers
-- Heads   the first collection of a batch, and what stands before it
pub mod Leads
pub mod Picks
pub mod Going
pub mod Heads
