pub mod TableRows
pub mod WorkLemmas
pub mod CarriedLemmas
pub mod ExploredLemmas
pub mod TurnsLemmas
