-- `word` meets its contract. A letter that was read stands inside the text, so the offset stays within it.
use Rattle.std.proofs.Common.{◌≡◌, ◌∙◌, ◌<◌, sym, arith, length, get_or}
use Rattle.definitions.specs.Form.{byte_at}
use Rattle.text_theory.specs.Numbers.{byte-within}
use Rattle.text.specs.Words.{no-zero-at, word-step, word-departs, word-ends}
use Rattle.text.proofs.scan.word.Goals as goal

pub returns-then-byte-letter : goal.returns-then-byte-letter
returns-then-byte-letter c =
    let a = c.args in
    let l = c.loop-letter in
    sym
    (l.invariant
    ∙ word-departs a.text.now a.letters.now l.letter-index l.p c.loop-letter-test.true
    (λ e. c.if-byte-letter.true (c.byte.ensures ∙ e)))

pub overflow_add-p : goal.overflow_add-p
overflow_add-p c =
    let a = c.args in
    let l = c.loop-letter in
    let here : byte_at a.text.now l.p ≡ get_or a.letters.now l.letter-index 0 = sym c.byte.ensures ∙ c.if-byte-letter.false in
    let lit : 0 < get_or a.letters.now l.letter-index 0 = no-zero-at a.letters.now l.letter-index c.requires c.loop-letter-test.true in
    let within : l.p < length a.text.now = byte-within a.text.now l.p (omega arith) in
    omega arith

pub loop-letter-preserved : goal.loop-letter-preserved
loop-letter-preserved c =
    let a = c.args in
    let l = c.loop-letter in
    let here : byte_at a.text.now l.p ≡ get_or a.letters.now l.letter-index 0 = sym c.byte.ensures ∙ c.if-byte-letter.false in
    l.invariant ∙ word-step a.text.now a.letters.now l.letter-index l.p c.loop-letter-test.true here

pub returns : goal.returns
returns c =
    let a = c.args in
    let l = c.loop-letter in
    sym (l.invariant ∙ word-ends a.text.now a.letters.now l.letter-index l.p c.loop-letter-test.false)
