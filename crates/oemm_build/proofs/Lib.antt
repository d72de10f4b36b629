pub mod Starts
pub mod Turns
pub mod Ends
pub mod Causes
