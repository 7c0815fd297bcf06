-- `number` meets its contract: a number has three later digits at most.
use Rattle.std.proofs.Common.{rules}
use Rattle.definitions.specs.Form.{scan_number}
use Rattle.text.proofs.scan.number.Goals as goal

pub returns-in_err-x : goal.returns-in_err-x
unfolding scan_number
returns-in_err-x c = let departed = c.in_err-x.ensures.scanned in search rules

pub returns : goal.returns
unfolding scan_number
returns c = c.in_ok-x.ensures.scanned
