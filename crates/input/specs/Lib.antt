-- What may be the whole of an input, by what was read of it, and which text is due for it.
pub mod Whole
pub mod Due
pub mod Counts
