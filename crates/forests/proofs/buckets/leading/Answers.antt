-- Before each turn no word of a higher count has a bit.
use mathlib.Core.Path.{◌≡◌, refl}
use native.Mathlib.Omega.{arith}
use lib.ListN.{get_or}
use Rattle.forests.specs.Buckets.{word_in}
use Rattle.forests.proofs.LeadLaws.{none_above, none-lead, first-leads}
use Rattle.forests.proofs.buckets.leading.Goals as goal

pub returns-in-Some : goal.returns-in-Some
returns-in-Some c =
    let at = c.loop-count in
    let bits = c.args.bits.now in
    first-leads bits at.count c.in-Some.g (get_or bits (word_in c.in-Some.g at.count) 0) c.lowest_of.result.0 at.auto.count
    at.invariant c.in-Some.ensures refl c.lowest_of.ensures

pub loop-count-preserved : goal.loop-count-preserved
loop-count-preserved c =
    let at = c.loop-count in
    none_above c.args.bits.now at.count c.loop-count-test.true at.invariant c.in_default.ensures

pub returns : goal.returns
returns c =
    let at = c.loop-count in
    let p : at.count ≡ 0 = omega arith in
    none-lead c.args.bits.now 0 (rw p at at.invariant)
