-- THE THEOREMS, over lists of any collections X with terms K and a test that decides equality of terms; then what the code stands on.
-- Batches   (a) each batch has a collection, fits the ceiling and is of one terms; (b) together they hold the collections; (c) their number is `need`
-- Fewest    (d) no batches that carry the collections are fewer; (e) when a limit is too low
-- ByLabel   batch n is the collections with the label n            Codes   numbers serve for terms, and so do codes
-- Cases     ★11, and 64 batches                                    Same    "the same, repeats counted" in two other words
-- Equality  tests that decide equality     Firsts  each terms once, in order of first appearance     Ceil  rounding up
-- Loops     what the loops of src/lib.rt keep
pub mod Equality
pub mod Firsts
pub mod Ceil
pub mod Same
pub mod Batches
pub mod Fewest
pub mod ByLabel
pub mod Codes
pub mod Loops
pub mod Cases
