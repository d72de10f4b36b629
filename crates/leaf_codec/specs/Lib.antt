pub mod Formats
pub mod Sheets
pub mod Edits
pub mod Replies
pub mod Entries
pub mod Index
