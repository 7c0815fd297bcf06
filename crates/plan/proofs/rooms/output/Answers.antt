-- `plan::rooms::output` meets its contract: as many zeros as the output has room for.
use Rattle.std.proofs.Common.{refl}
use Rattle.definitions.specs.Program.{room}
use Rattle.definitions.specs.Plan.{output_room}
use Rattle.plan.proofs.rooms.output.Goals as goal

pub returns : goal.returns
unfolding room output_room
returns c = refl
