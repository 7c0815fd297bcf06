-- `read_table` meets its contract: a header that departs, or what comes after it.
use Rattle.std.proofs.Common.{rules, sym, length}
use Rattle.text.specs.Tables.{refused-early, header-departs, header_read, table_same}
use Rattle.text.proofs.read_table.Goals as goal

pub returns-in_err-relays : goal.returns-in_err-relays
returns-in_err-relays c =
    let a = c.args in
    let departs = c.in_err-relays.ensures in
    let table =
    refused-early _ a.lows.now a.highs.now a.states.now _
    (header-departs a.text.now _ departs.0 (length a.lows.now) (length a.highs.now) (length a.states.now) departs.2 (sym departs.1)) in
    search rules

pub returns : goal.returns
returns c =
    let a = c.args in
    table_same _ _ _ _ _ _ _ _ _
    (header_read a.text.now _ _ _ (length a.lows.now) (length a.highs.now) (length a.states.now) (sym c.in_ok-relays.ensures))
    c.read_rows.ensures
