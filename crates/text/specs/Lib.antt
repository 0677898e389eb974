-- Rules    the text rules
-- Shapes   a text of a front and a rest
pub mod Rules
pub mod Shapes
