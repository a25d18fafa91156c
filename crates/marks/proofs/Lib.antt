pub mod LogLemmas
pub mod WordLemmas
pub mod SeatLemmas
pub mod StepLemmas
