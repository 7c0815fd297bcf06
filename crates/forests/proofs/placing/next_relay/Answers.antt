-- At place 1 the given relay, else the one that leads.
use mathlib.Core.Path.{refl}
use native.Mathlib.Omega.{arith}
use Rattle.forests.proofs.placing.next_relay.Goals as goal

pub returns-then-v-le1 : goal.returns-then-v-le1
returns-then-v-le1 c = (λ e. refl, λ h. absurd (omega arith))

pub returns : goal.returns
returns c = (λ e. absurd (omega arith), λ h. c.leading.ensures)
