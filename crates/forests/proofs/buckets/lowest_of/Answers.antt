-- The lowest bit of a word stands where its trailing zeros end.
use native.Mathlib.Omega.{arith}
use Rattle.forests.proofs.LeadLaws.{lowest-relay}
use Rattle.forests.proofs.buckets.lowest_of.Goals as goal

pub returns : goal.returns
returns c = lowest-relay c.args.g c.args.word c.requires.1 (omega arith)
