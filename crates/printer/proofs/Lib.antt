pub mod ByteLemmas
pub mod PathLemmas
pub mod ResultLemmas
pub mod RowLemmas
pub mod StartLemmas
pub mod StrictLemmas
