pub mod TurnExamples
pub mod TaskExamples
pub mod RemovalExamples
pub mod FileExamples
