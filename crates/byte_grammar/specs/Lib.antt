pub mod Reader
pub mod Numbers
pub mod Keeps
pub mod Codec
pub mod Calls
