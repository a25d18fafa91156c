pub mod WalkLemmas
pub mod PreorderOnce
pub mod OnceLemmas
pub mod PassLemmas
pub mod TurnLemmas
