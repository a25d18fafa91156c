pub mod ResultLemmas
pub mod Boards
pub mod CrewLemmas
pub mod RoundLemmas
pub mod RisingLemmas
pub mod EndLemmas
mod HandedLemmas
pub mod ActorLemmas
