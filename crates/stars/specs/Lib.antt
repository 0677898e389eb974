-- Stars   the ★ cases of document 01, one list
pub mod Stars
