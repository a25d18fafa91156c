pub mod Cursors
pub mod Pass
pub mod Walk
