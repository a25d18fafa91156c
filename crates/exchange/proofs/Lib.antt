pub mod Places
pub mod Calls
pub mod First
pub mod DeviceFirst
pub mod Quiet
pub mod Members
pub mod TurnsOfRows
pub mod Outcomes
