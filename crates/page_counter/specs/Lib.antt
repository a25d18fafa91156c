pub mod Counts
pub mod Sums
pub mod Tables
pub mod GuardSums
