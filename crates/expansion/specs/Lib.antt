pub mod Frames
pub mod Merge
pub mod Standings
pub mod ToCome
pub mod Together
pub mod Walk
