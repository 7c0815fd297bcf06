-- `reports::merge::try_link` meets its contract: b is not above a, does not see it, or the link a b is stored.
use native.Mathlib.Omega.{arith}
use Rattle.reports.proofs.MergeLaws.{link-skipped, link-missed, link-taken}
use Rattle.reports.proofs.merge.try_link.Goals as goal
use Rattle.reports.proofs.merge.try_link.Goals.{then-b-a-via-then-b-a, then-b-a-via-else-b-a+then-not-sees_back}

pub returns-then-b-a : goal.returns-then-b-a
returns-then-b-a c = elim c.then-b-a.branch [
  | then-b-a-via-then-b-a w ↦ rw w.places-is (link-skipped w.if-b-a.true)
  | then-b-a-via-else-b-a+then-not-sees_back w ↦
      rw w.places-is (link-missed (omega (arith, w.if-b-a.false)) w.sees_back.ensures w.if-not-sees_back.true)
]

pub returns : goal.returns
returns c =
    link-taken (omega (arith, c.if-b-a.false)) c.sees_back.ensures c.if-not-sees_back.false
    c.put_at.ensures c.put_at-2.ensures
