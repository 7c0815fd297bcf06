-- The loop's invariant: writing all the lines is writing those that are left.
use Rattle.std.proofs.Common.{◌-◌, length}
use Rattle.definitions.specs.Keep.{lease_lines}
use Rattle.program.specs.Going.{Going}
use Rattle.keep.proofs.print.put_links.Given as goal

abbrev pub invariant-loop-i : goal.invariant-loop-i
invariant-loop-i l =
    let t = l.table in
    Going l.initial.output l.at (lease_lines t.lows.now t.highs.now t.states.now l.marks 0 (length t.lows.now)) l.output l.p
    (lease_lines t.lows.now t.highs.now t.states.now l.marks l.i (length t.lows.now - l.i))
