-- `states_check` meets its contract.
use Rattle.std.proofs.Common.{sym, ◌∙◌}
use Rattle.definitions.specs.Outcome.{refuse_if}
use Rattle.network.proofs.states.states_check.Goals as goal

pub returns-then-states_fault : goal.returns-then-states_fault
unfolding refuse_if
returns-then-states_fault c = simp (sym c.states_fault.ensures ∙ c.if-states_fault.true)

pub returns : goal.returns
unfolding refuse_if
returns c = simp (sym c.states_fault.ensures ∙ c.if-states_fault.false)
