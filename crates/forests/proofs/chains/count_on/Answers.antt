-- The run goes on, or that at `last` is over and goes into the list.
use mathlib.Core.Path.{refl}
use Rattle.forests.specs.LinkCounts.{run_on, list_on}
use Rattle.forests.proofs.chains.count_on.Goals as goal

pub returns-then-eq : goal.returns-then-eq
unfolding run_on list_on
returns-then-eq c = rw (← c.if-eq.ensures) (record { value = refl; counts_left = refl })

pub returns : goal.returns
unfolding run_on list_on
returns c = rw (← c.if-eq.ensures) (record { value = refl; counts_left = c.count_links.ensures })
