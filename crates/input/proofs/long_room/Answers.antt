-- `input::long_room` meets its contract: a million bytes, and one.
use Prim.Native.Nat.{ℕ}
use lib.ListN.{length-replicate}
use Rattle.input.specs.Whole.{long_input_room}
use Rattle.input.proofs.long_room.Goals as goal

pub returns : goal.returns
unfolding long_input_room
returns c = length-replicate {A = ℕ} 1000001 0
