pub mod WorstLemmas
pub mod KillGroupLemmas
pub mod ClimbLemmas
