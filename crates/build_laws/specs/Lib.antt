pub mod Laid
pub mod Changes
