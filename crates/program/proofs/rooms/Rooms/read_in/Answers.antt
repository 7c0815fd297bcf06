-- Read into a program's own lists: it refuses, or leaves an accepted network in their front.
use Rattle.std.proofs.Common.{rules}
use Rattle.program.specs.ReadStage.{Rooms, read-loads}
use Rattle.program.proofs.rooms.Rooms.read_in.Goals as goal

pub returns : goal.returns
returns c =
    let own = c.args.self.now in
    let rooms : Rooms own.lows own.highs own.states = record { in_lows = search rules; in_highs = search rules; in_states = search rules } in
    let read = c.read.ensures in
    read-loads c.args.text.now own.lows own.highs own.states _ _ _ _ rooms read.answer read.low_list read.high_list read.state_list
