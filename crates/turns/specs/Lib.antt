pub mod Notes
pub mod Numbers
