pub mod Confirming
pub mod Faulty
pub mod Tasks
pub mod Verdicts
