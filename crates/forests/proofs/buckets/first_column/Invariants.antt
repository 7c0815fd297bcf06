-- Before each turn the columns below g have no bit in their words.
use Rattle.forests.specs.Buckets.{NoneBelow}
use Rattle.forests.proofs.buckets.first_column.Given as goal

abbrev pub invariant-loop-g : goal.invariant-loop-g
invariant-loop-g l = NoneBelow l.g l.count l.bits
