-- Tests   what a test says, and going by cases on one      Loops   what a loop over bytes keeps, for each definition of Bytes
-- Puts    the laws of `put_at`                              Below   a rule of every number below a bound, by one computed test
-- Counts  the laws of sums, counts and what is kept          Arms    the arms of a match on a number
-- Sections  the laws of finding elements by their part
pub mod Tests
pub mod Below
pub mod Loops
pub mod Puts
pub mod Counts
pub mod Arms
pub mod Sections
