pub mod Amounts
pub mod Asked
pub mod Paths
pub mod Prints
pub mod SinkLaws
pub mod Sinks
