-- `check_link` meets its contract: the pair is looked for, or the numbers do not fit.
use Rattle.std.proofs.Common.{arith}
use Rattle.network.proofs.LinkFaults.{unfit}
use Rattle.network.proofs.pairs.PairMarks.check_link.Goals as goal
use Rattle.network.proofs.pairs.PairMarks.check_link.Goals.{else-a-b-via-then-a-b+else-b-self, else-a-b-via-else-a-b}

pub returns-clause-checked : goal.returns-clause-checked
returns-clause-checked c =
    let a = c.args in
    unfit a.self.now.n a.a.0 a.b.0 a.self.now.seen.now c.number_check.result c.number_check.ensures
    (λ less within. elim c.else-a-b.branch [
      | else-a-b-via-then-a-b+else-b-self w ↦ omega (arith, w.if-b-self.false)
      | else-a-b-via-else-a-b w ↦ omega (arith, w.if-a-b.false)
    ])
