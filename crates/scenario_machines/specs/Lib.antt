pub mod Machines
pub mod RawLines
