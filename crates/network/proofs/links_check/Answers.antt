-- `links_check` meets its contract: a link with a fault ends it, a fine one leaves the links after it.
use Rattle.std.proofs.Common.{◌≡◌, ◌∙◌, refl, ap, arith, get_or}
use Rattle.definitions.specs.Network.{links_check}
use Rattle.network.specs.Seen.{fault_of, some-fault, seen_next}
use Rattle.network.proofs.LinkTurns.{turn-refused, turn-fine, links_end}
use Rattle.network.proofs.links_check.Goals as goal

pub loop-i-init : goal.loop-i-init
loop-i-init c = (refl, c.requires.1, ap (links_check _ _ _ 0) (omega arith))

pub returns-in-Err : goal.returns-in-Err
returns-in-Err c =
    let a = c.args in
    let now = c.loop-i in
    let checked = c.check_link in
    let told = turn-refused now.marks.n a.lows.now a.highs.now now.i now.marks.seen.now _ checked.result c.loop-i-test.true
    now.invariant.1 checked.ensures.checked now.invariant.2 _ (some-fault c.in-Err.fault) (ap fault_of c.in-Err.is) in
    c.of_link.ensures ∙ rw (now.invariant.0) at told

pub loop-i-preserved : goal.loop-i-preserved
loop-i-preserved c =
    let a = c.args in
    let now = c.loop-i in
    let checked = c.check_link in
    let fine : fault_of checked.result ≡ 0 = ap fault_of c.in_default.is in
    let same = checked.ensures.same in (
      same ∙ now.invariant.0,
      rw same (seen_next now.marks.n (get_or a.lows.now now.i 0) (get_or a.highs.now now.i 0) a.lows.now a.highs.now now.i
          now.marks.seen.now _ checked.result now.invariant.1 checked.ensures.checked fine refl refl),
      rw same (turn-fine now.marks.n a.lows.now a.highs.now now.i now.marks.seen.now _ checked.result
          c.loop-i-test.true now.invariant.1 checked.ensures.checked now.invariant.2 fine),
    )

pub returns : goal.returns
returns c =
    let a = c.args in
    let now = c.loop-i in
    let over = links_end now.marks.n a.lows.now a.highs.now now.i c.loop-i-test.false now.invariant.2 in
    rw now.invariant.0 at over
