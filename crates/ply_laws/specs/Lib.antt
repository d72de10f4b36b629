pub mod Lines
pub mod Elements
pub mod Records
