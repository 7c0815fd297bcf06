-- Before each turn no word of a higher count has a bit.
use Rattle.forests.proofs.LeadLaws.{NoneAbove}
use Rattle.forests.proofs.buckets.leading.Given as goal

abbrev pub invariant-loop-count : goal.invariant-loop-count
invariant-loop-count l = NoneAbove l.bits l.columns l.most l.count
