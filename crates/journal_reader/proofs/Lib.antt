pub mod NumberSpells
pub mod LineSpells
pub mod Writing
pub mod Reaching
pub mod Cutting
pub mod Answering
pub mod Lawful
