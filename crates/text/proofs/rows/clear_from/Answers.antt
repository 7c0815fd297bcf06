-- `clear_from` meets its contract: an index past the end counts as the end.
use Rattle.text.specs.Read.{cleared-cut}
use Rattle.text.proofs.rows.clear_from.Goals as goal

pub returns : goal.returns
returns c = cleared-cut c.args.from c.min-from.result c.args.list.now c.fill.new.self c.min-from.ensures (c.fill.ensures.after (λ y e. e))
