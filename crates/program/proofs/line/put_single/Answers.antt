-- `program::line::put_single` meets its contract: a word with a number, and a word.
use native.Mathlib.Omega.{arith}
use Rattle.text.specs.Put.{put-append}
use Rattle.program.specs.Single.{single-written, single-length}
use Rattle.program.proofs.line.put_single.Goals as goal

pub put_word_number-p-requires : goal.put_word_number-p-requires
put_word_number-p-requires c =
    let a = c.args in
    omega (arith, single-length a.front.now a.back.now a.x)

pub put_word-requires : goal.put_word-requires
put_word-requires c =
    let one = c.put_word_number-p.ensures in
    let a = c.args in
    omega (arith, single-length a.front.now a.back.now a.x, one.ends, one.same)

pub returns : goal.returns
returns c =
    let a = c.args in
    rw (single-written a.front.now a.back.now a.x)
    (put-append _ _ _ _ _ _ _ _ c.put_word_number-p.ensures c.put_word.ensures)
