-- The loop of `reports::places::put_states`: the states of the relays passed stand in the front of the list.
use mathlib.Core.Path.{◌≡◌}
use lib.ListN.{length, take}
use Rattle.definitions.specs.Outcome.{pick}
use Rattle.definitions.specs.Lists.{table}
use Rattle.reports.specs.Offsets.{reports_by}
use Rattle.reports.proofs.places.put_states.Given as goal

abbrev pub invariant-loop-r : goal.invariant-loop-r
invariant-loop-r l =
    (length l.states ≡ length l.initial.states) × (take l.r l.states ≡ table (λ r. pick (reports_by l.places r) 1 0) 0 l.r)
