-- Write   what the writer answers and leaves in the output
pub mod Write
