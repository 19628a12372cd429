pub mod Bits
pub mod Notes
pub mod Sets
pub mod Marked
pub mod Rowed
