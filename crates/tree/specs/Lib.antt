-- To be believed (definitions only):
--   Form      the description of a tree, its trees, their bytes and events, messages of the form, the place of refusal 2
--   Parts     the parts that elements play
--   Pain008   the profile tree of document 01, with the addresses of request 3
-- Computed:
--   Apart     the test that a description must pass
--   Tags      the tag at a place                Reader    reading a message
pub mod Form
pub mod Parts
pub mod Pain008
pub mod Apart
pub mod Tags
pub mod Reader
