pub mod Said
pub mod Division
pub mod Sorting
pub mod Reasons
pub mod Trial
pub mod Faults
