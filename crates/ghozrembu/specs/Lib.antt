pub mod Judged
pub mod BuiltBytes
pub mod FoundBytes
pub mod Looks
