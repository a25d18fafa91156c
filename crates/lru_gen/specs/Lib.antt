pub mod Gens
pub mod Rows
pub mod Lists
pub mod Filled
