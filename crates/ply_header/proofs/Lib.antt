pub mod ResultLaws
pub mod HeaderLaws
