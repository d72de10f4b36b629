pub mod Truths
pub mod Lookups
pub mod Stable
pub mod Around
pub mod NearLists
pub mod Made
pub mod CutPatches
