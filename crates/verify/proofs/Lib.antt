-- Laws that the proofs share, in the terms of the code.
pub mod FormLaws
pub mod EndLaws
pub mod LinkLaws
pub mod MarkLaws
pub mod NumberLaws
pub mod WalkLaws
pub mod RouteLaws
pub mod JudgeLaws
pub mod LineLaws
