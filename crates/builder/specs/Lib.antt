pub mod Parts
pub mod Asked
pub mod OnModule
pub mod Built
pub mod Demand
