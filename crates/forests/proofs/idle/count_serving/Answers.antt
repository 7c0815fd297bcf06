-- Links are discounted where a relay is withdrawn; else none is to be.
use native.Mathlib.Omega.{arith}
use Rattle.forests.proofs.IdleLinkLaws.{none-idle}
use Rattle.forests.proofs.idle.count_serving.Goals as goal

pub discount-requires : goal.discount-requires
discount-requires c = let d = c.requires.1 in rw d.stated.long d

pub returns-else-turns-n : goal.returns-else-turns-n
returns-else-turns-n c =
    let a = c.args in
    none-idle a.lows.now a.highs.now a.states.now a.n a.counts.now c.requires.1
    (omega (arith, c.if-turns-n.false, c.requires.0))
