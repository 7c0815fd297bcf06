-- After each turn that many columns have the bits of their relays.
use Rattle.forests.proofs.StartLaws.{FilledTo}
use Rattle.forests.proofs.buckets.fill_words.Given as goal

abbrev pub invariant-loop-column : goal.invariant-loop-column
invariant-loop-column l = FilledTo l.n l.column l.bits
