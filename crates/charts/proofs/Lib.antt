mod ListingLemmas
mod RowLemmas
mod OpenedLemmas
