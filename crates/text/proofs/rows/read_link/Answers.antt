-- `read_link` meets its contract: the line is refused, the link has a fault, or it is stored.
use Rattle.std.proofs.Common.{rules, ap}
use Rattle.network.specs.Seen.{fault_of}
use Rattle.text.specs.Read.{read-departs, read-faulty, read-fine}
use Rattle.text.proofs.rows.read_link.Goals as goal

pub returns-in_err-a-clause-read : goal.returns-in_err-a-clause-read
returns-in_err-a-clause-read g c =
    let a = c.args in
    let n = a.marks.now.n in
    let line = read-departs (g.L.LinkLines.reading a.text.now n) n a.i a.at a.lows.now a.highs.now c.requires.room.0
    a.marks.now.seen.now c.in_err-a.field-0.0 c.in_err-a.ensures in
    search rules

pub returns-in-Err-clause-read : goal.returns-in-Err-clause-read
returns-in-Err-clause-read g c =
    let a = c.args in
    let pre = c.requires in
    let n = a.marks.now.n in
    read-faulty (g.L.LinkLines.reading a.text.now n) n a.i a.at a.lows.now a.highs.now pre.room.0 a.marks.now.seen.now
    _ _ _ _ _ pre.room.1 pre.before c.check_link.ensures.checked c.in_ok-a.ensures c.in-Err.fault _ c.in-Err.is c.of_link.ensures

pub returns-clause-read : goal.returns-clause-read
returns-clause-read g c =
    let a = c.args in
    let pre = c.requires in
    let n = a.marks.now.n in
    read-fine (g.L.LinkLines.reading a.text.now n) n a.i a.at a.lows.now a.highs.now pre.room.0 a.marks.now.seen.now
    _ _ _ _ _ pre.room.1 pre.before c.check_link.ensures.checked c.in_ok-a.ensures (ap fault_of c.in_default.is)
