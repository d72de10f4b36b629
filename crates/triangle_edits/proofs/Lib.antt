pub mod Apexes
pub mod Turns
pub mod Neighbours
pub mod ThreeRings
pub mod Made
pub mod Results
pub mod Least
