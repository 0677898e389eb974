-- Lines    the lines of a list                           Hex      hexadecimal digits, and the bytes that they stand for
-- Fields   the text fields of a line, with their rules   Frames   what a line holds
-- Parts    where the texts of a line stand
pub mod Lines
pub mod Hex
pub mod Fields
pub mod Frames
pub mod Parts
