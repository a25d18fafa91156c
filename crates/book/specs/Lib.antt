pub mod Passes
pub mod Keeping
pub mod Effects
pub mod MakesStep
pub mod Decisions
pub mod Told
pub mod Books
pub mod Looks
