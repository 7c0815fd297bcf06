-- `trade_below` meets its contract. The loop's invariant: what is left to do gives what the whole gives.
use Rattle.std.proofs.Common.{◌≡◌, ◌-◌, pred}
use Rattle.sweep.specs.Side.{left_of, trade_from}
use Rattle.sweep.proofs.side.trade_below.Given as goal

abbrev pub invariant-loop-i : goal.invariant-loop-i
invariant-loop-i l =
    trade_from (left_of l.table) l.v.0 l.j (pred l.j) l.initial.side ≡ trade_from (left_of l.table) l.v.0 l.j (l.i - 1) l.side
