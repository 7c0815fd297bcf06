-- What Route answers on an accepted table and of any input is the answer of the definition.
pub mod Table
pub mod OneTree
pub mod Accepted
pub mod Inner
pub mod Refusals
pub mod Lent
