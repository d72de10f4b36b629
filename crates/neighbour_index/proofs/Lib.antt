pub mod Any
pub mod Members
