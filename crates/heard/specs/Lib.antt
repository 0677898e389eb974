-- State   what was heard so far, and its step for one event      Row   the same, read from the struct that is lent      Bounds   what keeps the numbers small
pub mod State
pub mod Row
pub mod Bounds
