-- Digits   hexadecimal digits               Cuts     the lines, cut one by one
-- Walks    a walk over a frame              Parts    a walk to a text, and the digits of a text
-- Tables   a table filled from the front    Starts   the lines by their starts
-- Seen     bytes of a class, by stretches   Strides  bytes filled in, one by one and by strides
pub mod Digits
pub mod Cuts
pub mod Walks
pub mod Parts
pub mod Tables
pub mod Starts
pub mod Seen
pub mod Strides
