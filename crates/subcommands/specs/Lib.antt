pub mod Scripts
pub mod Charted
