-- To be believed (definitions only):
--   Written   the message for a list and a ceiling, as a tree of the profile       Blocks   how such trees are built
pub mod Blocks
pub mod Written
-- Pieces   the bytes of the message, piece by piece, as the code writes them
pub mod Pieces
