pub mod Soup
pub mod Taken
