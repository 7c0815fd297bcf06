-- A bit that is shifted by less than 64 stays in its word.
use Rattle.forests.proofs.BucketLaws.{bit-of}
use Rattle.forests.proofs.buckets.bit_of.Goals as goal

pub returns : goal.returns
returns c = let a = c.args in bit-of a.count a.r.0 c.waits.result c.waits.ensures
