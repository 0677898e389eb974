-- Answers   what the functions of the desk answer, in numbers
pub mod Answers
