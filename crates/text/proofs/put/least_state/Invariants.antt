-- The loop's invariant: no state seen so far is below the number.
use Rattle.text.specs.WrittenOuts.{AtMostEach}
use Rattle.text.proofs.put.least_state.Given as goal

abbrev pub invariant-loop-state : goal.invariant-loop-state
invariant-loop-state l = AtMostEach l.least l.states l.state-index
