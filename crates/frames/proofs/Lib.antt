-- The laws of frames, from the ground up.
pub mod Lcm
pub mod Parts
pub mod Slots
pub mod Length
pub mod Builder
pub mod Kept
pub mod Answers
pub mod Tables
pub mod SheetA
