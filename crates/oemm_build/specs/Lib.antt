pub mod Faults
pub mod Items
pub mod Laying
pub mod Building
