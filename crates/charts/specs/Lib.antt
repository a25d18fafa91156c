pub mod Watched
pub mod Phased
pub mod Listed
pub mod WatchLaws
