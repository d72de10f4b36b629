pub mod Line
pub mod Grammar
pub mod Ranges
pub mod Script
pub mod Tells
