pub mod Turns
pub mod Tickets
