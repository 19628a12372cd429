pub mod Next
pub mod Turns
pub mod SpelledFiles
