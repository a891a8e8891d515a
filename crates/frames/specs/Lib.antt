pub mod Frame
pub mod Next
pub mod Demand
