-- Lead     the fields of a collection before its texts   Values   the values of a line
-- Stages   the stages 21 to 25 and 51 to 58              Breaks   where a value breaks its rule
-- Walk     a walk over the lines, for the code
pub mod Lead
pub mod Values
pub mod Stages
pub mod Breaks
pub mod Walk
