-- Laws that the proofs share, in the terms of the code.
pub mod CommentLaws
pub mod EdgeLaws
pub mod ImportLaws
