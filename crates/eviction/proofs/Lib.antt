pub mod ListLemmas
pub mod SettleLemmas
pub mod TurnLemmas
pub mod AgeLemmas
pub mod KeptLemmas
pub mod SoundLemmas
pub mod FileLemmas
