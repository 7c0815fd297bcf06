-- `left` meets its contract.
use Rattle.std.proofs.Common.{eq-eqb, ne_eqb, lt-ltb, le-ltb}
use Rattle.sweep.specs.Side.{link_entry, table_entry}
use Rattle.sweep.proofs.side.LeftTable.left.Goals as goal
use Rattle.sweep.proofs.side.LeftTable.left.Goals.{then-i-eq0-via-then-i-eq0, then-i-eq0-via-else-i-eq0+then-v-eq0, then-i-eq0-via-else-i-eq0+else-v-eq0+then-self-v}

pub returns-then-i-eq0 : goal.returns-then-i-eq0
unfolding link_entry table_entry
returns-then-i-eq0 c =
    let a = c.args in
    elim c.then-i-eq0.branch [
      | then-i-eq0-via-then-i-eq0 w ↦ rw (eq-eqb a.i 0 w.if-i-eq0.true) c.neighbour.ensures
      | then-i-eq0-via-else-i-eq0+then-v-eq0 w ↦
          rw (ne_eqb a.i 0 w.if-i-eq0.false, eq-eqb a.v.0 0 w.if-v-eq0.true) c.neighbour.ensures
      | then-i-eq0-via-else-i-eq0+else-v-eq0+then-self-v w ↦
          rw (ne_eqb a.i 0 w.if-i-eq0.false, ne_eqb a.v.0 0 w.if-v-eq0.false, lt-ltb a.self.n a.v.0 w.if-self-v.true)
          c.neighbour.ensures
    ]

pub returns : goal.returns
unfolding table_entry
returns c =
    let a = c.args in
    rw (ne_eqb a.i 0 c.if-i-eq0.false, ne_eqb a.v.0 0 c.if-v-eq0.false, le-ltb a.self.n a.v.0 c.if-self-v.false)
    cc
