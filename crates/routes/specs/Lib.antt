-- What the functions of this crate compute, on lists, as their loops run: the check of the wish, the writing, the routes between two
-- places, Route's answer.
pub mod Wishes
pub mod Writing
pub mod WrittenLinks
pub mod Between
pub mod Answers
