-- Cases     the message of one list, byte for byte
-- Clean     texts without the byte `<`
-- Texts     good texts are clean and short
-- Numerals  written numbers and words are good texts
-- Printed   the pieces are the bytes of the tree
-- Lengths   the written message is not longer than a message may be
-- Bundled   the message for good collections, bundled
pub mod Cases
pub mod Clean
pub mod Texts
pub mod Numerals
pub mod Printed
pub mod Lengths
pub mod Bundled
