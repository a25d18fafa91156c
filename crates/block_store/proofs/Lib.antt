pub mod BlockLemmas
pub mod FaultLemmas
