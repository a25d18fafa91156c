pub mod ResultLemmas
pub mod StartLemmas
