pub mod Asked
pub mod Scenarios
