-- What was read into the lists is handed on as the network in their front, or refused.
use Rattle.std.proofs.Common.{rules, sym, ◌∙◌, ap}
use Rattle.definitions.specs.Outcome.{done}
use Rattle.program.specs.ReadStage.{table-front}
use Rattle.program.proofs.rooms.Rooms.load.Goals as goal

pub returns-in_err-size : goal.returns-in_err-size
returns-in_err-size c =
    let told = sym c.in_err-size.ensures in
    search rules

pub network-requires : goal.network-requires
network-requires c = table-front _ _ _ _ _ _ c.in_ok-size.ensures

pub returns : goal.returns
returns c = ap done c.network.ensures ∙ sym c.in_ok-size.ensures.read
