-- The laws of the builder.
pub mod Found
pub mod Written
pub mod Returned
pub mod Hosted
pub mod Theorems
