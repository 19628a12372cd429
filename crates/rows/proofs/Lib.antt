pub mod Bits
pub mod Marked
pub mod Cohorts
