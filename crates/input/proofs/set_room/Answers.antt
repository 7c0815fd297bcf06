-- `input::set_room` meets its contract: the bytes of the longest set with its line, and one.
use Prim.Native.Nat.{ℕ}
use lib.ListN.{length-replicate}
use Rattle.input.specs.Whole.{set_input_room}
use Rattle.input.proofs.set_room.Goals as goal

pub returns : goal.returns
unfolding set_input_room
returns c = length-replicate {A = ℕ} 3917016 0
