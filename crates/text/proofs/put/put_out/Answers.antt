-- `text::put::put_out` meets its contract: nothing, or two writings, one behind the other.
use mathlib.Core.Path.{ap}
use native.Mathlib.Omega.{arith}
use lib.ListN.{length}
use Rattle.definitions.specs.Form.{bytes}
use Rattle.definitions.specs.Text.{out_form}
use Rattle.text.specs.Put.{number-written, length-number, put-append}
use Rattle.text.specs.WrittenOuts.{line-out, line-none, put-none}
use Rattle.text.proofs.put.put_out.Goals as goal

pub returns-then-state-ne0 : goal.returns-then-state-ne0
returns-then-state-ne0 c =
    let a = c.args in
    rw (line-none a.state a.relay c.if-state-ne0.true) (put-none a.buffer.now a.at)

pub put_word_number-p-requires : goal.put_word_number-p-requires
unfolding out_form
put_word_number-p-requires c =
    let a = c.args in
    let line = ap length (line-out a.state a.relay c.if-state-ne0.false) in
    omega (arith, line, length-number (bytes "(out ") (bytes ")\n") a.relay)

pub put_word-requires : goal.put_word-requires
unfolding out_form
put_word-requires c =
    let a = c.args in
    let line = ap length (line-out a.state a.relay c.if-state-ne0.false) in
    let one = c.put_word_number-p.ensures in
    omega (arith, line, length-number (bytes "(out ") (bytes ")\n") a.relay, one.ends, one.same)

pub returns : goal.returns
unfolding out_form
returns c =
    let a = c.args in
    rw (
      line-out a.state a.relay c.if-state-ne0.false,
      number-written (bytes "(out ") (bytes ")\n") a.relay,
    )
    (put-append _ _ _ _ _ _ _ _ c.put_word_number-p.ensures c.put_word.ensures)
