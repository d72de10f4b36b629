pub mod Reading
pub mod Results
pub mod Faults
pub mod Faces
pub mod Progress
