-- `program::line::put_triple` meets its contract: a word with a number, and a line of two.
use native.Mathlib.Omega.{arith}
use Rattle.text.specs.Put.{put-append}
use Rattle.program.specs.Single.{triple-written, triple-length}
use Rattle.program.proofs.line.put_triple.Goals as goal

pub put_word_number-p-requires : goal.put_word_number-p-requires
put_word_number-p-requires c =
    let a = c.args in
    omega (arith, triple-length a.front.now a.second.now a.third.now a.back.now a.x a.y a.z)

pub put_pair-requires : goal.put_pair-requires
put_pair-requires c =
    let a = c.args in
    let one = c.put_word_number-p.ensures in
    let lengths = triple-length a.front.now a.second.now a.third.now a.back.now a.x a.y a.z in
    omega (arith, one.ends, one.same)

pub returns : goal.returns
returns c =
    let a = c.args in
    rw (triple-written a.front.now a.second.now a.third.now a.back.now a.x a.y a.z)
    (put-append _ _ _ _ _ _ _ _ c.put_word_number-p.ensures c.put_pair.ensures)
