pub mod TableLemmas
pub mod FlightLemmas
pub mod CacheLemmas
pub mod MemberLemmas
pub mod FrameLemmas
pub mod TransferLemmas
