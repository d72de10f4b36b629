pub mod Alike
pub mod Away
pub mod Folding
pub mod Held
