pub mod Lanes
pub mod Ways
pub mod Safe
pub mod Given
pub mod Later
pub mod Holding
pub mod Going
