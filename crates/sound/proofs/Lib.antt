pub mod Passed
pub mod Partners
pub mod Alike
pub mod Hereditary
pub mod Exact
pub mod Tables
pub mod Judges
pub mod Laid
