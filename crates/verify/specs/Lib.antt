-- What the contracts of reading a sheet back speak of: offsets in the text, walks, and answers.
pub mod Offsets
pub mod Gives
pub mod Summary
pub mod Walks
pub mod Answers
pub mod Exact
pub mod Written
pub mod Line
pub mod Promise
