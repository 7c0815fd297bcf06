-- `keep::rooms::output` meets its contract: as many zeros as the output has room for.
use Rattle.std.proofs.Common.{refl}
use Rattle.definitions.specs.Program.{room}
use Rattle.definitions.specs.Keep.{lease_room}
use Rattle.keep.proofs.rooms.output.Goals as goal

pub returns : goal.returns
unfolding room lease_room
returns c = refl
