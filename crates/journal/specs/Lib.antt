pub mod Logs
pub mod Journals
pub mod Vectors
pub mod Pointers
pub mod Back
pub mod Held
