-- What the contracts of the reports speak of, a module for each stage.
pub mod Offsets
pub mod Lines
pub mod Places
pub mod Merges
