-- What the scan holds in its lists and what the operations over it promise, a module a subject: the parts of a step, from the
-- chains of links to the walk over them; the scan, step by step; the left table from what it gives; and the answers.
pub mod Fronts
pub mod Chains
pub mod LinkCounts
pub mod Busiest
pub mod Counts
pub mod Buckets
pub mod Walk
pub mod Scan
pub mod Left
pub mod Answers
