pub mod CountLemmas
pub mod WalkLemmas
