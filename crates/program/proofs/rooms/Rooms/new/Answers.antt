-- The lists are zeros.
use Rattle.program.specs.ReadStage.{zeros-room}
use Rattle.program.proofs.rooms.Rooms.new.Goals as goal

pub returns : goal.returns
returns c = (zeros-room 3000, zeros-room 3000, zeros-room 1000)
