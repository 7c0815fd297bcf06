-- `text::put::put_word` meets its contract. The loop: the whole run of stores is that of the letters left, on the buffer
-- as it is.
use Rattle.std.proofs.Common.{◌+◌, ◌≡◌, ◌∙◌, refl, sym, arith}
use Rattle.std.proofs.Math.ListN.{length-set}
use Rattle.text.specs.Put.{word-store, word-stored}
use Rattle.text.proofs.put.put_word.Goals as goal

pub loop-i-init : goal.loop-i-init
loop-i-init c =
    let e : c.args.at + 0 ≡ c.args.at = omega arith in
    (refl, rw e)

pub loop-i-preserved : goal.loop-i-preserved
loop-i-preserved c =
    let a = c.args in
    let l = c.loop-i in
    (length-set l.buffer _ _ ∙ l.invariant.0, l.invariant.1 ∙ word-store l.buffer a.letters.now a.at l.i (omega arith))

pub returns : goal.returns
returns c =
    let a = c.args in
    let l = c.loop-i in
    record {
      bytes = sym (l.invariant.1 ∙ word-stored l.buffer a.letters.now (a.at + l.i) l.i (omega arith));
      ends = refl;
      same = l.invariant.0;
    }
