-- `stands::printed::put_both` meets its contract: the two texts on either side of the border.
use Rattle.stands.proofs.PrintLaws.{both-put}
use Rattle.stands.proofs.printed.put_both.Goals as goal

pub returns : goal.returns
returns c =
    both-put c.args.text.now _ _ c.border-at.ensures c.put_standing.ensures
