-- Hold   all ★ cases hold
pub mod Hold
