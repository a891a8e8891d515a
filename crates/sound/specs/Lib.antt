pub mod Sound
pub mod Desk
pub mod Asked
