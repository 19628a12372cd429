pub mod Texts
pub mod Lines
pub mod Writing
pub mod Writers
pub mod Reports
