-- The loop's invariant: the whole run of stores is that of the lines left, on the buffer as it is.
use Rattle.text.specs.WrittenOuts.{OutsStanding}
use Rattle.text.proofs.put.put_outs.Given as goal

abbrev pub invariant-loop-relay : goal.invariant-loop-relay
invariant-loop-relay l = OutsStanding l.initial.buffer l.at l.states l.buffer l.p l.relay
