pub mod Groups
pub mod Tables
pub mod Places
pub mod Walk
pub mod Lineages
pub mod Kin
pub mod Flags
