-- What each command gives, by cases on its end.
pub mod Run
