pub mod Cached
pub mod Opened
pub mod Readings
pub mod Shelves
pub mod Shown
