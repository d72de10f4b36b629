pub mod PlanesInts
pub mod PlanesBounds
pub mod PlanesCorners
pub mod PlanesCasts
pub mod SumsRing
pub mod Sums
pub mod SumsSizes
pub mod SumsRead
