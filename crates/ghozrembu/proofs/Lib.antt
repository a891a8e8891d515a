pub mod JudgeLaws
pub mod SearchLaws
pub mod BuildLaws
pub mod LookLaws
