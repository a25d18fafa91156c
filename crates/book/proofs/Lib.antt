pub mod FlightLemmas
pub mod StepLemmas
pub mod JudgeLemmas
pub mod MoveLemmas
pub mod TouchLemmas
pub mod EndLemmas
pub mod RemoveLemmas
pub mod NeedLemmas
pub mod CarryLemmas
pub mod HistoryLemmas
pub mod TicketLemmas
pub mod CallLemmas
pub mod PassLemmas
mod LookLemmas
mod KillLemmas
