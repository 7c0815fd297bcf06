-- Laws that the proofs share, in the terms of the code.
pub mod ConvertLaws
