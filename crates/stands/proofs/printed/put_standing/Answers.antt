-- `stands::printed::put_standing` meets its contract: the text that stands, which fits, or the refused line.
use Rattle.std.proofs.Common.{Ok, sym, ap, ◌∙◌, arith}
use Rattle.definitions.specs.Stands.{first, second, text_of_which}
use Rattle.stands.specs.Standing.{which_outcome}
use Rattle.stands.specs.Printed.{which-fits}
use Rattle.stands.proofs.PrintLaws.{chosen-put, refused-put}
use Rattle.stands.proofs.printed.put_standing.Goals as goal

pub put_word-requires : goal.put_word-requires
unfolding text_of_which
put_word-requires c =
    omega (arith, which-fits c.args.first.now c.args.second.now first (sym c.which_stands.ensures ∙ ap which_outcome (c.in-Ok-First.is ∙ ap Ok c.in-Ok-First.field-0-is)))

pub put_word-requires-in-Ok-Second : goal.put_word-requires-in-Ok-Second
unfolding text_of_which
put_word-requires-in-Ok-Second c =
    omega (arith, which-fits c.args.first.now c.args.second.now second (sym c.which_stands.ensures ∙ ap which_outcome (c.in-Ok-Second.is ∙ ap Ok c.in-Ok-Second.field-0-is)))

pub returns-in-Ok-First : goal.returns-in-Ok-First
unfolding text_of_which
returns-in-Ok-First c =
    chosen-put c.args.first.now c.args.second.now first (sym c.which_stands.ensures ∙ ap which_outcome (c.in-Ok-First.is ∙ ap Ok c.in-Ok-First.field-0-is)) c.put_word.ensures

pub returns-in-Ok-Second : goal.returns-in-Ok-Second
unfolding text_of_which
returns-in-Ok-Second c =
    chosen-put c.args.first.now c.args.second.now second (sym c.which_stands.ensures ∙ ap which_outcome (c.in-Ok-Second.is ∙ ap Ok c.in-Ok-Second.field-0-is))
    c.put_word-in-Ok-Second.ensures

pub returns-in-Err : goal.returns-in-Err
returns-in-Err c =
    refused-put _ _ c.in-Err.refusal
    (sym c.which_stands.ensures ∙ ap which_outcome c.in-Err.is)
    c.put_any.ensures
