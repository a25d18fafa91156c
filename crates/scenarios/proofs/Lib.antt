mod BlockLemmas
mod NearestLemmas
mod PartLemmas
mod PieceLemmas
mod SizeLemmas
mod TreeLemmas
mod WordLemmas
