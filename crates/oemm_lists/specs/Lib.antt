pub mod Ascending
pub mod TextLine
pub mod Numbers
