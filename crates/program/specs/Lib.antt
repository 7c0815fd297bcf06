-- What every program says of itself: the network that a reading leaves in its lists, the border between two texts, the refused line,
-- and what is printed where.
pub mod Into
pub mod RefusedLine
pub mod ReadStage
pub mod Made
pub mod Front
pub mod Going
pub mod Single
pub mod Parts
pub mod Printable
pub mod CutPassed
pub mod Border
