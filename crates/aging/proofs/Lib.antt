pub mod GroupLemmas
pub mod PromoteLemmas
pub mod AgeLemmas
