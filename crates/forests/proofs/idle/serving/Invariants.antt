-- After each turn the states of that many relays are added up.
use Rattle.std.proofs.Common.{◌≡◌, ◌+◌, ◌≤◌}
use Rattle.forests.specs.Counts.{turns_of}
use Rattle.forests.proofs.StartLaws.{turns_from}
use Rattle.forests.proofs.idle.serving.Given as goal

abbrev pub invariant-loop-state : goal.invariant-loop-state
invariant-loop-state l =
    (l.turns ≤ l.state-index) × (l.turns + turns_from l.n l.states l.state-index ≡ turns_of l.n l.states)
