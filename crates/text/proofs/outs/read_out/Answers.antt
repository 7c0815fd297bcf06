-- `read_out` meets its contract: the line departs, its relay is beyond the last or not above the one before, or it is taken.
use Rattle.std.proofs.Common.{rules}
use Rattle.text.specs.DueForms.{pair-departs-out, pair-reads-out}
use Rattle.text.specs.ReadOuts.{out-line-departs, out-line-beyond, out-line-again, out-line-taken}
use Rattle.text.proofs.outs.read_out.Goals as goal
use Rattle.text.proofs.outs.read_out.Goals.{then-n-relay-via-then-n-relay, then-n-relay-via-else-n-relay+then-relay-next}

pub returns-in_err-relay : goal.returns-in_err-relay
returns-in_err-relay c =
    let a = c.args in
    let departs = c.in_err-relay.ensures in
    let line = out-line-departs a.text.now a.n a.next.0 a.at _ departs.0 departs.2 (pair-departs-out _ _ departs.1) in
    search rules

pub returns-then-n-relay : goal.returns-then-n-relay
returns-then-n-relay c =
    let a = c.args in
    let read = pair-reads-out _ _ _ _ c.in_ok-relay.ensures in
    elim c.then-n-relay.branch [
      | then-n-relay-via-then-n-relay w ↦
          out-line-beyond a.text.now a.n a.next.0 a.at read.0 _ _ read.1 read.2 w.if-n-relay.true
      | then-n-relay-via-else-n-relay+then-relay-next w ↦
          out-line-again a.text.now a.n a.next.0 a.at read.0 _ _ read.1 read.2 w.if-n-relay.false w.if-relay-next.true
    ]

pub returns : goal.returns
returns c =
    let a = c.args in
    let read = pair-reads-out _ _ _ _ c.in_ok-relay.ensures in
    out-line-taken a.text.now a.n a.next.0 a.at read.0 _ _ read.1 read.2 c.if-n-relay.false c.if-relay-next.false
