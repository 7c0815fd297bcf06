-- Why the sweep's code gives the definition's paths. From the definition down to the code:
--   definitions/Sweep has the sweep on paths, as lists of places; theory/SweepTrades has its exchange as trades, one by one.
--   Paths: the sweep on the two sides' lists (specs/Side, specs/Sides) keeps lists that hold the paths of the definition, and beside
--   their places the links between them.
--   Loops: each loop and each row of calls of the code does what specs/ says. The proofs of the functions rest on it.
pub mod Paths
pub mod Loops
