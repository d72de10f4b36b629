pub mod Sheets
pub mod Assembled
pub mod Written
pub mod Export
pub mod Clean
