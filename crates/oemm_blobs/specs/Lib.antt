pub mod Content
pub mod Folder
pub mod History
pub mod Memory
pub mod Names
pub mod Store
