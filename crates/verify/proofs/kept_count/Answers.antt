-- `kept_count` meets its contract: Cut of an accepted table, in a list long enough.
use Rattle.std.proofs.Common.{◌∙◌, arith}
use Rattle.theory.specs.Accepted.{accepted}
use Rattle.program.specs.CutPassed.{kept-total}
use Rattle.verify.proofs.kept_count.Goals as goal

pub cut_accepted-requires : goal.cut_accepted-requires
cut_accepted-requires c = omega (arith, (accepted _ _ _ _ c.args.network.accepted).short)

pub returns : goal.returns
returns c = c.cut_accepted.ensures.value ∙ kept-total _ _ _ _ _
