pub mod Spots
pub mod Events
pub mod Replies
