-- The loop's invariant: what is gathered is above 1 exactly if the greatest entry passed is.
use Rattle.network.proofs.StateLaws.{Gathered}
use Rattle.network.proofs.states.states_fault.Given as goal

abbrev pub invariant-loop-state : goal.invariant-loop-state
invariant-loop-state l = Gathered l.states l.state-index l.all
