pub mod Plans
pub mod Gives
pub mod Steps
pub mod Answers
pub mod Theorems
pub mod Calls
