pub mod Files
pub mod Readers
