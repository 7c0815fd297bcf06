-- The first entry is stored, or no relay is placed.
use Rattle.forests.proofs.ClearLaws.{begun-some, begun-none}
use Rattle.forests.proofs.relays.begin.Goals as goal

pub returns-then-turns-gt0 : goal.returns-then-turns-gt0
returns-then-turns-gt0 c = let a = c.args in begun-some a.turns a.x.0 a.relays.now c.if-turns-gt0.true

pub returns-else-turns-gt0 : goal.returns-else-turns-gt0
returns-else-turns-gt0 c = let a = c.args in begun-none a.turns a.x.0 a.relays.now c.if-turns-gt0.false
