-- The loop: the whole reading is that of the lines left, with the states told so far in front of the list; each line raises the
-- next relay.
use Rattle.std.proofs.Common.{◌≡◌, ◌-◌, length}
use Rattle.text.specs.Outs.{OutsLeft}
use Rattle.text.proofs.outs.read_outs.Given as goal

abbrev pub invariant-loop-p : goal.invariant-loop-p
invariant-loop-p l = (length l.states ≡ length l.initial.states) × OutsLeft l.text l.n l.at l.states l.next l.p

abbrev pub decreases-loop-p : goal.decreases-loop-p
decreases-loop-p l = l.n - l.next
