-- What the planner prints: how far it looks, how much it writes, and the answers of its functions.
pub mod Wish
pub mod SheetLines
pub mod Reach
pub mod Planned
pub mod Refusals
pub mod Routes
pub mod Overs
pub mod Longest
pub mod Promise
pub mod LinkRooms
pub mod Stages
