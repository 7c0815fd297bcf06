-- `put_read_back` meets its contract: Read refuses, or the sheet is looked at with the network that was read.
use Rattle.std.proofs.Common.{◌∙◌, sym, ap}
use Rattle.definitions.specs.Program.{printed}
use Rattle.program.specs.ReadStage.{loaded-refused, loaded-network, network_outcome}
use Rattle.verify.proofs.LineLaws.{line_of}
use Rattle.verify.proofs.line.put_read_back.Goals as goal

pub returns-in-Ok : goal.returns-in-Ok
returns-in-Ok c =
    line_of _ _ (loaded-network _ _ _ (sym (ap network_outcome c.in-Ok.is) ∙ c.load.ensures)) c.put_line.ensures

pub returns-in-Err : goal.returns-in-Err
unfolding printed
returns-in-Err c =
    line_of _ _ (loaded-refused _ _ _ (sym (ap network_outcome c.in-Err.is) ∙ c.load.ensures)) c.put_any.ensures
