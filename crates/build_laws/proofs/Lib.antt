pub mod Laying
pub mod Contents
pub mod Crashes
