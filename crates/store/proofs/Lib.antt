pub mod Pairs
pub mod Slotted
pub mod Fresh
pub mod Filled
pub mod Refused
pub mod Written
