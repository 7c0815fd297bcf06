-- `reports::reports_table` meets its contract: 3, the refusal of a line or of the set, or the reports are joined.
use mathlib.Core.Bool.{true}
use Rattle.std.proofs.Common.{rules, length}
use mathlib.Core.Path.{◌≡◌}
use native.Mathlib.Omega.{arith}
use Rattle.definitions.specs.Lists.{outside}
use Rattle.lists.specs.Ranges.{below, above}
use Rattle.text.specs.Tables.{refused-early}
use Rattle.reports.proofs.SetLaws.{set-outside}
use Rattle.reports.proofs.reports_table.Goals as goal
use Rattle.reports.proofs.reports_table.Goals.{then-n-lt1-via-then-n-lt1, then-n-lt1-via-else-n-lt1+then-n-gt-RELAYS}

pub returns-then-n-lt1 : goal.returns-then-n-lt1
returns-then-n-lt1 c =
    let a = c.args in
    let out : outside 1 1000 a.n ≡ true = elim c.then-n-lt1.branch [
      | then-n-lt1-via-then-n-lt1 w ↦ below 1 1000 a.n (omega arith)
      | then-n-lt1-via-else-n-lt1+then-n-gt-RELAYS w ↦ above 1 1000 a.n (omega arith) (omega arith)
    ] in
    refused-early _ a.lows.now a.highs.now a.states.now _ (set-outside _ a.text.now _ _ _ out)

pub returns-in_err-place_all : goal.returns-in_err-place_all
returns-in_err-place_all c =
    let a = c.args in
    let table =
    refused-early _ a.lows.now a.highs.now a.states.now _
    (c.in_err-place_all.ensures (length a.lows.now) (length a.highs.now) (length a.states.now) (omega arith) (omega arith)) in
    search rules
