-- `surer::main` meets its contract: the text that is printed rests on the front of the input alone.
use Rattle.std.proofs.Common.{rules}
use Rattle.sure.specs.Promise.{sure-reach}
use Rattle.surer.proofs.main.Goals as goal

pub answer-requires : goal.answer-requires
answer-requires c κs = search (rules, sure-reach)
