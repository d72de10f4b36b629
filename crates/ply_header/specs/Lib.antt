pub mod Results
pub mod Layout
pub mod Header
pub mod Limits
