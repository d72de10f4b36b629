pub mod Indented
