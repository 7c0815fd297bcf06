-- `put_refusal` meets its contract: the line with its number and its place.
use Rattle.program.proofs.refusal.put_refusal.Goals as goal

pub put_refused-requires : goal.put_refused-requires
put_refused-requires c = rw (c.number.ensures, c.place.ensures) c.requires

pub returns : goal.returns
returns c = rw (← c.number.ensures, ← c.place.ensures) c.put_refused.ensures
