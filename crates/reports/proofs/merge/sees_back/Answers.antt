-- `reports::merge::sees_back` meets its contract.
use mathlib.Core.Path.{refl}
use native.Mathlib.Omega.{arith}
use Rattle.reports.proofs.MergeLaws.{saw-none, saw-back}
use Rattle.reports.proofs.merge.sees_back.Goals as goal

pub returns-then-kept-eq0 : goal.returns-then-kept-eq0
returns-then-kept-eq0 c = saw-none c.if-kept-eq0.true

pub returns : goal.returns
returns c =
    let passed = c.pass_below-cursor.ensures in
    saw-back refl (omega (arith, c.if-kept-eq0.false)) c.requires (omega (arith, c.if-kept-eq0.false, passed.onward)) passed.passed
