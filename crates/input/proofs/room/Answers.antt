-- `input::room` meets its contract: as many bytes as can matter.
use Prim.Native.Nat.{ℕ}
use lib.ListN.{length-replicate}
use Rattle.definitions.specs.Program.{input_room}
use Rattle.input.proofs.room.Goals as goal

pub returns : goal.returns
unfolding input_room
returns c = length-replicate {A = ℕ} _ 0
