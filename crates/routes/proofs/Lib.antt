-- Why Route's code gives the definition's routes. From the definition down to the code, a folder for each step, below them the crate
-- `sweep`, whose lists hold the paths of the definition and the links between their places:
--   Routes: what is written out of such lists (specs/Writing, specs/WrittenLinks, specs/Between) are the definition's routes, and the
--   links between their relays.
--   Answers: over the left table of an accepted network that is Route's answer; the test of one tree decides refusal 13.
--   Loops: each loop and each row of calls of the code does what specs/ says. The proofs of the functions rest on it; they stand
--   in the folders that have the names of the source's modules.
pub mod Routes
pub mod Answers
pub mod Loops
