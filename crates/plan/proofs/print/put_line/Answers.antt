-- `plan::print::put_line` meets its contract: a word, the numbers, and a word.
use native.Mathlib.Omega.{arith}
use Rattle.definitions.specs.Plan.{numbers_line}
use Rattle.text.specs.Put.{put-append}
use Rattle.plan.specs.SheetLines.{line-length}
use Rattle.plan.proofs.print.put_line.Goals as goal

pub put_word-p-requires : goal.put_word-p-requires
put_word-p-requires c =
    let a = c.args in
    omega (arith, line-length a.name.now a.numbers.now, c.requires)

pub put_numbers-q-requires : goal.put_numbers-q-requires
put_numbers-q-requires c =
    let a = c.args in
    let one = c.put_word-p.ensures in
    omega (arith, line-length a.name.now a.numbers.now, c.requires, one.ends, one.same)

pub put_word-requires : goal.put_word-requires
put_word-requires c =
    let a = c.args in
    let one = c.put_word-p.ensures in
    let two = c.put_numbers-q.ensures in
    omega (arith, line-length a.name.now a.numbers.now, c.requires, one.ends, one.same, two.ends, two.same)

pub returns : goal.returns
unfolding numbers_line
returns c =
    put-append _ _ _ _ _ _ _ _ c.put_word-p.ensures
    (put-append _ _ _ _ _ _ _ _ c.put_numbers-q.ensures c.put_word.ensures)
