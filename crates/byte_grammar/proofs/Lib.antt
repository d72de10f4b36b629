pub mod Spells
pub mod NumberSpells
pub mod Variants
pub mod Many
pub mod Items
pub mod Places
pub mod Decoding
pub mod Codecs
