-- `scan_link` of the network text meets its contract: the line departs, or it is read.
use Rattle.std.proofs.Common.{rules, sym}
use Rattle.text.specs.Read.{scan-departs, scan-reads}
use Rattle.text.proofs.rows.NetworkLinesLinkLines.scan_link.Goals as goal

pub returns-in_err-a : goal.returns-in_err-a
returns-in_err-a c =
    let a = c.args in
    let departs = c.in_err-a.ensures in
    let line = scan-departs a.text.now a._n a._i a.at _ departs.0 departs.2 (sym departs.1) in
    search rules

pub returns : goal.returns
returns c = scan-reads c.args.text.now c.args._n c.args._i c.args.at _ _ _ (sym c.in_ok-a.ensures)
