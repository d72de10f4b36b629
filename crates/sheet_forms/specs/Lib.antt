pub mod Formed
pub mod Storable
