pub mod Errors
pub mod LeastSteps
pub mod Served
pub mod Rooms
pub mod Filled
pub mod Turns
