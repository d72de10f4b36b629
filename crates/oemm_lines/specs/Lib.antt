pub mod Words
pub mod Lines
pub mod Numbers
pub mod Stream
pub mod Ends
