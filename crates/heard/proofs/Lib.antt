-- Fold      folds over the events, generic
-- Words     what was said, part by part
-- Batches   batch after batch, transaction after transaction
-- Addresses the first bad mix of the addresses
-- Right     THE THEOREMS: what was heard is right
-- Unsaid    nothing was said, in the list of what each part said
-- Bounds    the numbers stay small
pub mod Fold
pub mod Words
pub mod Batches
pub mod Addresses
pub mod Right
mod Unsaid
pub mod Bounds
