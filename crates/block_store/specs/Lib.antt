pub mod Blocks
pub mod Device
pub mod Memory
pub mod Slots
