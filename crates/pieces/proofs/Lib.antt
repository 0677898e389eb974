-- Shorts    the texts of a line: where they stand, how long they are       Choices   pieces with a choice
pub mod Shorts
pub mod Choices
