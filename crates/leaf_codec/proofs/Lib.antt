pub mod SheetSpells
pub mod EditSpells
pub mod ReplySpells
pub mod EntrySpells
pub mod IndexSpells
pub mod Rising
