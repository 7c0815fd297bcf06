-- What the desk's list of links is: how far it looks, how long it gets, what it promises, and the answers of its functions.
pub mod Reach
pub mod Listed
pub mod Counts
pub mod KeptLinks
pub mod Promise
pub mod Longest
pub mod Lines
pub mod Stages
