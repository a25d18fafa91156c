pub mod ShareLemmas
pub mod ResultLemmas
pub mod RowLemmas
pub mod RestLemmas
mod ViewLemmas
mod ToldLemmas
mod RuleLemmas
pub mod ActLemmas
mod SharedLemmas
mod EndLemmas
mod GivenLemmas
mod HandLemmas
mod StageLemmas
mod LookLemmas
