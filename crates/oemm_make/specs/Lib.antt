pub mod Sample
pub mod Walk
pub mod Text
pub mod Fits
pub mod Tiles
pub mod Held
