-- `import::edges::read_last` meets its contract: a comment departs, something is behind them, or nothing is.
use Rattle.std.proofs.Common.{sym, ◌∙◌, ap}
use Rattle.text.specs.Scans.{word_gives}
use Rattle.import.proofs.ImportLaws.{last-departs, last_more, last-over}
use Rattle.import.proofs.edges.read_last.Goals as goal

pub returns-in-Err : goal.returns-in-Err
returns-in-Err c = last-departs c.args.text.now c.args.at _ (sym c.comments.ensures ∙ ap word_gives c.in-Err.is)

pub returns-then-p-text : goal.returns-then-p-text
returns-then-p-text c = last_more c.args.text.now c.args.at _ (sym c.comments.ensures ∙ ap word_gives c.in-Ok.is) c.if-p-text.true

pub returns-else-p-text : goal.returns-else-p-text
returns-else-p-text c = last-over c.args.text.now c.args.at _ (sym c.comments.ensures ∙ ap word_gives c.in-Ok.is) c.if-p-text.false
