pub mod Off
pub mod MeshBytes
pub mod Ply
pub mod Form
pub mod Block
pub mod Stream
