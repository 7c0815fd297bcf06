-- Laws that the proofs share.
pub mod LineLaws
pub mod MarkLaws
pub mod MergeLaws
pub mod LinkLaws
pub mod PlaceLaws
pub mod SetLaws
