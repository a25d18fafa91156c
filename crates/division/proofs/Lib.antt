pub mod GoLemmas
pub mod SaidLemmas
pub mod RowLemmas
pub mod FaultLemmas
pub mod DivisionLemmas
pub mod TrialLemmas
