pub mod Numbers
pub mod Fields
pub mod Spelling
pub mod SpelledLines
pub mod SpelledLooms
