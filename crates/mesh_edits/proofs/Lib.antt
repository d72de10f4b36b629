pub mod Entries
pub mod Altered
pub mod Effects
pub mod Settled
pub mod Rims
pub mod Clashes
pub mod Sums
pub mod FirstRound
pub mod On
pub mod Near
pub mod Parts
pub mod Done
mod Replies
mod Counts
mod Seen
mod Meshes
mod Held
mod PutBack
mod Simplifies
