pub mod Together
pub mod Groups
pub mod Places
pub mod CornerPlanes
pub mod LeafVertices
pub mod OneList
pub mod NearLeaves
pub mod Started
