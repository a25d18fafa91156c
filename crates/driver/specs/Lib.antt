pub mod Schedule
pub mod Hands
pub mod Seats
pub mod Desks
pub mod Sinks
pub mod Traced
pub mod Hits
