pub mod KinLemmas
pub mod EffectiveLemmas
pub mod CallerLemmas
pub mod ShareLemmas
