pub mod WordLemmas
pub mod NumeralLemmas
pub mod Splits
pub mod LongLines
pub mod FitLemmas
pub mod LineCuts
pub mod WorkLemmas
pub mod RowLemmas
pub mod Loop
pub mod HeaderLemmas
pub mod FileLemmas
pub mod TellLemmas
pub mod LimitLemmas
pub mod FirstFrames
mod Examples
