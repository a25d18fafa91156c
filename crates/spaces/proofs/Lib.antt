mod GroupLemmas
pub mod TableLemmas
mod PlaceLemmas
mod TaskLemmas
