pub mod Numbers
pub mod Grammar
pub mod Reader
pub mod Writes
pub mod LineWords
