-- What the functions of the import answer, in the terms of the definitions.
pub mod Edges
