pub mod Numbers
pub mod Lines
pub mod Drafts
pub mod Journal
pub mod Readings
