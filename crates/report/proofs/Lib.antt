pub mod Hex
pub mod Reports
pub mod Room
