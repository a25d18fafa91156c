pub mod FrameLemmas
pub mod PoolLemmas
