pub mod OnGrid
