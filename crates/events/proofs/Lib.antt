-- Events   what an event does, arm by arm
pub mod Events
