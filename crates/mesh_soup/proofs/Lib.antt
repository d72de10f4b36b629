pub mod Readings
pub mod Takings
