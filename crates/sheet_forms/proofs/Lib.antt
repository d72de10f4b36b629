pub mod Distinct
pub mod Formed
pub mod Each
pub mod Homed
pub mod WellFormed
pub mod Agreed
pub mod Storable
pub mod Counts
