pub mod Rules
pub mod Picks
pub mod Harness
pub mod Feed
pub mod Vectors
pub mod Stories
