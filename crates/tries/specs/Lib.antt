pub mod Tries
pub mod Order
pub mod Placements
pub mod Dfs
pub mod Code
