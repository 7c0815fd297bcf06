-- `sure::sure` meets its contract: Read refuses, or the figure of the network is printed. That the output holds it rests on demand 3,
-- which bounds the relays of all the routes.
use mathlib.Core.Path.{sym}
use native.Mathlib.Omega.{arith}
use Rattle.definitions.specs.Program.{printed}
use Rattle.definitions.specs.Plan.{output_room}
use Rattle.sure.specs.Lines.{sure-fits, sure-put}
use Rattle.sure.proofs.sure.Goals as goal

pub put_figure-requires : goal.put_figure-requires
unfolding printed output_room
put_figure-requires c = omega (arith, sure-fits _ _ (sym c.in-Ok.ensures))

pub put_refusal-requires : goal.put_refusal-requires
unfolding printed output_room
put_refusal-requires c = omega (arith, sure-fits _ _ (sym c.in-Err.ensures))

pub returns-in-Ok : goal.returns-in-Ok
unfolding printed output_room
returns-in-Ok c =
    let whole = sure-put _ _ (sym c.in-Ok.ensures) _ _ _ (omega arith) c.put_figure.ensures in
    record { length = whole.0; bytes = whole.1 }

pub returns-in-Err : goal.returns-in-Err
unfolding printed output_room
returns-in-Err c =
    let whole = sure-put _ _ (sym c.in-Err.ensures) _ _ _ (omega arith) c.put_refusal.ensures in
    record { length = whole.0; bytes = whole.1 }
