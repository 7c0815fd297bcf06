-- `scan_link` of a drawing meets its contract: the line departs, an end is out of range, or the edge stands for a link.
use Rattle.std.proofs.Common.{sym, ◌≡◌, ◌∙◌, ap, true, arith}
use Rattle.definitions.specs.Lists.{outside}
use Rattle.lists.specs.Ranges.{below, above}
use Rattle.lists.specs.Tests.{or_left, or_right}
use Rattle.text.specs.Scans.{pair_gives}
use Rattle.import.specs.Edges.{out_of_range}
use Rattle.import.proofs.EdgeLaws.{edge-departs, edge-ranged, edge-inside}
use Rattle.import.proofs.edges.EdgeLinesLinkLines.scan_link.Goals as goal
use Rattle.import.proofs.edges.EdgeLinesLinkLines.scan_link.Goals.{then-u-lt1-via-then-u-lt1, then-u-lt1-via-else-u-lt1+then-n-u, then-u-lt1-via-else-u-lt1+else-n-u+then-v-lt1, then-u-lt1-via-else-u-lt1+else-n-u+else-v-lt1+then-n-v}

pub returns-in-Err : goal.returns-in-Err
returns-in-Err c =
    let a = c.args in
    edge-departs a.text.now a.n a.i a.at _ (sym c.edge_line.ensures ∙ ap pair_gives c.in-Err.is)

pub returns-then-u-lt1 : goal.returns-then-u-lt1
returns-then-u-lt1 c =
    let a = c.args in
    let n = a.n in
    let u = c.in-Ok.line.0 in
    let v = c.in-Ok.line.1 in
    let out : out_of_range n u v ≡ true = elim c.then-u-lt1.branch [
      | then-u-lt1-via-then-u-lt1 w ↦ or_left (outside 1 n u) (outside 1 n v) (below 1 n u (omega arith))
      | then-u-lt1-via-else-u-lt1+then-n-u w ↦ or_left (outside 1 n u) (outside 1 n v) (above 1 n u (omega arith) (omega arith))
      | then-u-lt1-via-else-u-lt1+else-n-u+then-v-lt1 w ↦ or_right (outside 1 n u) (outside 1 n v) (below 1 n v (omega arith))
      | then-u-lt1-via-else-u-lt1+else-n-u+else-v-lt1+then-n-v w ↦
          or_right (outside 1 n u) (outside 1 n v) (above 1 n v (omega arith) (omega arith))
    ] in
    edge-ranged a.text.now n a.i a.at u v _ (sym c.edge_line.ensures ∙ ap pair_gives c.in-Ok.is) out

pub returns : goal.returns
returns c =
    let a = c.args in
    edge-inside a.text.now a.n a.i a.at _ _ _ (sym c.edge_line.ensures ∙ ap pair_gives c.in-Ok.is) _ _
    (omega (arith, c.if-u-lt1.false)) c.if-n-u.false (omega (arith, c.if-v-lt1.false)) c.if-n-v.false c.low_end.ensures c.high_end.ensures
