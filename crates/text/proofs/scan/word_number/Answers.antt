-- `word_number` meets its contract, by what the word and the number gave.
use Rattle.std.proofs.Common.{rules, sym, ◌∙◌}
use Rattle.text.specs.ItemByItem.{word-number-departs, word-number-reads}
use Rattle.text.proofs.scan.word_number.Goals as goal

pub returns-in_err-p : goal.returns-in_err-p
returns-in_err-p c =
    let a = c.args in
    let departed = word-number-departs a.text.now a.letters.now a.at _ (sym c.in_err-p.ensures) in
    search rules

pub returns : goal.returns
returns c =
    let a = c.args in
    c.number.ensures ∙ sym (word-number-reads a.text.now a.letters.now a.at _ (sym c.in_ok-p.ensures))
