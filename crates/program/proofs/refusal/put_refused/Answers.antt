-- `program::refusal::put_refused` meets its contract: three words, with the number and the place between them.
use native.Mathlib.Nat.{zero-add}
use Rattle.definitions.specs.Program.{refused_form}
use Rattle.program.proofs.refusal.put_refused.Goals as goal

pub put_pair-requires : goal.put_pair-requires
unfolding refused_form
put_pair-requires c = rw zero-add c.requires

pub returns : goal.returns
unfolding refused_form
returns c = c.put_pair.ensures
