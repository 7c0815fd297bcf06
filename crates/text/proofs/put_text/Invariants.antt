-- The loop of `text::put_text`: what is left of the text behind the links that are written, and how many links are left.
use Prim.Native.Nat.{◌-◌}
use lib.ListN.{length}
use Rattle.network.specs.Tables.{OfTable}
use Rattle.text.specs.Marks.{Standing}
use Rattle.text.proofs.put_text.Given as goal

abbrev pub invariant-loop-mark : goal.invariant-loop-mark
invariant-loop-mark l =
    OfTable (λ n lows highs states. Standing n lows highs states l.fn.buffer l.buffer l.mark) l.table

abbrev pub decreases-loop-mark : goal.decreases-loop-mark
decreases-loop-mark l = length l.table.lows.now - l.mark.links
