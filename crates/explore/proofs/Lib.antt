pub mod ApartLemmas
pub mod ListingLemmas
pub mod ExploresLemmas
