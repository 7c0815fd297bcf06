-- `program::line::put_kept` meets its contract: the form is two words with a number between them.
use Rattle.definitions.specs.Plan.{kept_form}
use Rattle.program.proofs.line.put_kept.Goals as goal

pub put_single-requires : goal.put_single-requires
unfolding kept_form
put_single-requires c = c.requires

pub returns : goal.returns
unfolding kept_form
returns c = c.put_single.ensures
