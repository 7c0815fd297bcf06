-- `reports::places::put_states` meets its contract: the list is too short, or it has a state for each of the n relays.
use mathlib.Core.Path.{refl, ◌∙◌}
use native.Mathlib.Omega.{arith}
use lib.ListN.{length-set}
use Rattle.definitions.specs.Lists.{table}
use Rattle.reports.proofs.PlaceLaws.{state-picked, states-more}
use Rattle.reports.proofs.places.put_states.Goals as goal

pub loop-r-init : goal.loop-r-init
unfolding table
loop-r-init c = (refl, refl)

pub loop-r-preserved : goal.loop-r-preserved
loop-r-preserved c =
    let l = c.loop-r in
    (length-set l.states l.r _ ∙ l.invariant.0, states-more _ _ _ _ l.invariant.1 (omega arith) (c.from.ensures ∙ state-picked _))
