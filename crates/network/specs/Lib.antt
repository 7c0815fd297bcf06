-- The words of the contracts and the facts that they rest on, a module a subject.
pub mod Pairs
pub mod RowStarts
pub mod Marks
pub mod Seen
pub mod Answers
pub mod Refusals
pub mod Tables
