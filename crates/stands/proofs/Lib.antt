-- Laws that the proofs share.
pub mod ReadLaws
pub mod StandingLaws
pub mod PrintLaws
