-- `print_into` meets its contract: the output is too short, or the text is written.
use Rattle.program.specs.Into.{print-short, print-done}
use Rattle.program.proofs.into.print_into.Goals as goal

pub returns-then-output-text : goal.returns-then-output-text
returns-then-output-text c =
    let both = print-short c.args.text.now c.args.output.now c.if-output-text.true in
    record { answer = both.0; bytes = both.1 }

pub returns : goal.returns
returns c =
    let both = print-done c.args.text.now c.args.output.now _ _ c.if-output-text.false c.put_word.ensures in
    record { answer = both.0; bytes = both.1 }
