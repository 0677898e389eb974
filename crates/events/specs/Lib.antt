-- Events   what an event does, part by part
pub mod Events
