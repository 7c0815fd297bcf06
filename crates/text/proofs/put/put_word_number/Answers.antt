-- `text::put::put_word_number` meets its contract: two writings, one behind the other.
use native.Mathlib.Omega.{arith}
use Rattle.text.specs.Put.{word-number-written, length-word-number, put-append}
use Rattle.text.proofs.put.put_word_number.Goals as goal

pub put_word-p-requires : goal.put_word-p-requires
put_word-p-requires c =
    let a = c.args in
    omega (arith, length-word-number a.letters.now a.x)

pub put_number-requires : goal.put_number-requires
put_number-requires c =
    let a = c.args in
    let w = c.put_word-p.ensures in
    omega (arith, length-word-number a.letters.now a.x, w.ends, w.same)

pub returns : goal.returns
returns c =
    let a = c.args in
    rw (word-number-written a.letters.now a.x)
    (put-append _ _ _ _ _ _ _ _ c.put_word-p.ensures c.put_number.ensures)
