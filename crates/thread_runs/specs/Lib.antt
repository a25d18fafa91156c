pub mod Actors
pub mod Threads
pub mod Crews
pub mod Rounds
