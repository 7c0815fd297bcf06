-- `front` meets its contract: after b turns the first b entries follow the rule.
use Rattle.std.proofs.Common.{ℕ, ◌+◌, ◌∙◌, get_or, arith}
use Rattle.std.proofs.Math.ListN.{length-set}
use Rattle.std.proofs.lemmas.List.{length-replicate}
use Rattle.network.specs.RowStarts.{rows_none, rows-fewer, rows_next}
use Rattle.network.proofs.row_starts.front.Goals as goal

pub loop-b-init : goal.loop-b-init
loop-b-init g c = (length-replicate {A = ℕ} g.row.RELAYS 0, rows_none _)

pub loop-b-preserved : goal.loop-b-preserved
loop-b-preserved g c =
    let now = c.loop-b in
    let rows = c.row_starts-rows in (
      length-set now.front now.b (get_or rows.result now.b 0) ∙ now.invariant.0,
      rows_next now.b rows.result now.front (rows-fewer (now.b + 1) 1000 rows.result (omega arith) rows.ensures)
          now.invariant.1 (omega arith),
    )

pub returns : goal.returns
returns g c = rows-fewer g.row.RELAYS c.loop-b.b c.loop-b.front (omega arith) c.loop-b.invariant.1
