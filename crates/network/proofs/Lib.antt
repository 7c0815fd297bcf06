-- Laws of this crate's proofs, a module a subject.
pub mod LinkFaults
pub mod LinkTurns
pub mod PlaceLaws
pub mod StateLaws
