-- `pair_number` meets its contract: the tests on the way to each answer are those of the definition.
use Rattle.std.proofs.Common.{arith, le-leb}
use Rattle.std.proofs.lemmas.Bool.{lt-leb}
use Rattle.definitions.specs.Outcome.{refuse_if}
use Rattle.definitions.specs.Network.{pair_answer}
use Rattle.network.specs.RowStarts.{rows-fewer}
use Rattle.network.proofs.pairs.pair_number.Goals as goal
use Rattle.network.proofs.pairs.pair_number.Goals.{then-a-ge-RELAYS-via-then-a-ge-RELAYS, then-a-ge-RELAYS-via-else-a-ge-RELAYS+then-b-ge-RELAYS}

pub returns-then-a-ge-RELAYS : goal.returns-then-a-ge-RELAYS
unfolding pair_answer refuse_if
returns-then-a-ge-RELAYS c =
    elim c.then-a-ge-RELAYS.branch [
      | then-a-ge-RELAYS-via-then-a-ge-RELAYS w ↦ simp (le-leb _ _ w.if-a-ge-RELAYS.true)
      | then-a-ge-RELAYS-via-else-a-ge-RELAYS+then-b-ge-RELAYS w ↦
          simp (lt-leb _ _ w.if-a-ge-RELAYS.false, le-leb _ _ w.if-b-ge-RELAYS.true)
    ]

pub returns-then-b-a : goal.returns-then-b-a
unfolding pair_answer refuse_if
returns-then-b-a c =
    simp (lt-leb _ _ c.if-a-ge-RELAYS.false, lt-leb _ _ c.if-b-ge-RELAYS.false, le-leb _ _ c.if-b-a.true)

pub pair_index-requires : goal.pair_index-requires
pair_index-requires c =
    let rows = c.row_starts-rows in
    (omega arith, omega arith, rows-fewer _ 1000 rows.result (omega arith) rows.ensures)

pub returns : goal.returns
unfolding pair_answer refuse_if
returns c =
    simp (
      lt-leb _ _ c.if-a-ge-RELAYS.false,
      lt-leb _ _ c.if-b-ge-RELAYS.false,
      lt-leb _ _ c.if-b-a.false,
      c.pair_index.ensures,
    )
