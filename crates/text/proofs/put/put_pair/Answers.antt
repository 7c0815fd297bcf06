-- `text::put::put_pair` meets its contract: three writings, one behind the other.
use native.Mathlib.Omega.{arith}
use Rattle.text.specs.Put.{pair-written, length-pair, put-append}
use Rattle.text.proofs.put.put_pair.Goals as goal

pub put_word_number-p-requires : goal.put_word_number-p-requires
put_word_number-p-requires c =
    let a = c.args in
    let whole = length-pair a.front.now a.middle.now a.back.now a.a a.b in
    omega arith

pub put_word_number-q-requires : goal.put_word_number-q-requires
put_word_number-q-requires c =
    let a = c.args in
    let whole = length-pair a.front.now a.middle.now a.back.now a.a a.b in
    let one = c.put_word_number-p.ensures in
    omega (arith, one.ends, one.same)

pub put_word-requires : goal.put_word-requires
put_word-requires c =
    let a = c.args in
    let whole = length-pair a.front.now a.middle.now a.back.now a.a a.b in
    let one = c.put_word_number-p.ensures in
    let two = c.put_word_number-q.ensures in
    omega (arith, one.ends, one.same, two.ends, two.same)

pub returns : goal.returns
returns c =
    let a = c.args in
    rw (pair-written a.front.now a.middle.now a.back.now a.a a.b)
    (put-append _ _ _ _ _ _ _ _ c.put_word_number-p.ensures
    (put-append _ _ _ _ _ _ _ _ c.put_word_number-q.ensures
    c.put_word.ensures))
