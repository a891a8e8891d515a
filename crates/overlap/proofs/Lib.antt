-- Korst's theorem: `Korst`. `Residues` is what it rests on, `Answers` the test's answers.
pub mod Residues
pub mod Answers
pub mod Korst
