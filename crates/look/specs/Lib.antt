-- Look   what one look at a text of a message promises
pub mod Look
