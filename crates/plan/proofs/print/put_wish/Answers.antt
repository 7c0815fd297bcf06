-- `plan::print::put_wish` meets its contract: the form is four words with three numbers between them.
use Rattle.definitions.specs.Plan.{sheet_form}
use Rattle.plan.proofs.print.put_wish.Goals as goal

pub put_triple-requires : goal.put_triple-requires
unfolding sheet_form
put_triple-requires c = rw (c.from-from.ensures, c.from-to.ensures, c.from-k.ensures) c.requires

pub returns : goal.returns
unfolding sheet_form
returns c = rw (← c.from-from.ensures, ← c.from-to.ensures, ← c.from-k.ensures) c.put_triple.ensures
