-- `mark_pair` meets its contract: proofs/LinkFaults.antt has each way through the code.
use Prim.Native.Nat.{◌+◌}
use native.Mathlib.Omega.{arith}
use Rattle.network.specs.Pairs.{pair-below}
use Rattle.network.specs.RowStarts.{rows-fewer}
use Rattle.network.proofs.LinkFaults.{repeated, fine}
use Rattle.network.proofs.pairs.PairMarks.mark_pair.Goals as goal

pub pair_index-pair-requires : goal.pair_index-pair-requires
pair_index-pair-requires c =
    let a = c.args in
    (omega arith, omega arith, rows-fewer (a.b.0 + 1) a.self.now.n a.self.now.rows.now (omega arith) a.self.now.rows_for)

pub bounds-self-word : goal.bounds-self-word
bounds-self-word c =
    let a = c.args in
    omega (
      arith,
      c.pair_index-pair.ensures,
      pair-below a.self.now.n a.a.0 a.b.0 (omega arith) (omega arith),
    )

pub returns-then-bits-bit-eq1-clause-checked : goal.returns-then-bits-bit-eq1-clause-checked
returns-then-bits-bit-eq1-clause-checked c =
    let a = c.args in
    repeated a.self.now.n a.a.0 a.b.0 a.self.now.seen.now
    (omega arith) (omega arith) (omega arith)
    c.pair_index-pair.result
    c.pair_index-pair.ensures
    c.if-bits-bit-eq1.true

pub bounds-self-word-2 : goal.bounds-self-word-2
bounds-self-word-2 c =
    let a = c.args in
    omega (
      arith,
      c.pair_index-pair.ensures,
      pair-below a.self.now.n a.a.0 a.b.0 (omega arith) (omega arith),
    )

pub returns-clause-checked : goal.returns-clause-checked
returns-clause-checked c =
    let a = c.args in
    fine a.self.now.n a.a.0 a.b.0 a.self.now.seen.now
    (omega arith) (omega arith) (omega arith)
    c.pair_index-pair.result
    c.pair_index-pair.ensures
    c.if-bits-bit-eq1.false
