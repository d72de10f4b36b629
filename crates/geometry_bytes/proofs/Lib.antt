pub mod Bounds
pub mod GeometrySpells
