pub mod Worst
pub mod Chosen
pub mod Climb
