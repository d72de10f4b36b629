pub mod Readings
pub mod Parted
pub mod SheetRules
pub mod IndexRules
pub mod WrittenRules
