-- What the sure figure promises, how much is printed, and its lines.
pub mod Promise
pub mod Longest
pub mod Lines
