mod BracketLemmas
mod FillLemmas
mod GiveLemmas
mod HeaderLemmas
mod NameLemmas
mod PathLemmas
