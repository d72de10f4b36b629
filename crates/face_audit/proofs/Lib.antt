pub mod Lists
pub mod Ranges
pub mod Steps
pub mod SameAudit
