pub mod Legals
pub mod LawLemmas
pub mod ReclaimLemmas
pub mod RiseLemmas
pub mod CallLemmas
pub mod OrderLemmas
pub mod RoundLemmas
pub mod EvenLemmas
pub mod HandLemmas
pub mod LeftLemmas
pub mod ShareLemmas
pub mod TurnLemmas
pub mod ProtectionLemmas
pub mod LowLemmas
mod KillLemmas
pub mod SettingLemmas
