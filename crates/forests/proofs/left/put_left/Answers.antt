-- One more than a link's index is its code.
use native.Mathlib.Numerals.{add-one}
use Rattle.forests.proofs.left.put_left.Goals as goal

pub returns : goal.returns
returns c = rw (← add-one c.args.link)
