-- `import::comments::comment` meets its contract: no c, words behind a space, or c alone.
use Rattle.std.proofs.Common.{rules, ◌≡◌, refl, sym, ◌∙◌, ap, arith}
use Rattle.definitions.specs.Form.{bytes, byte_at, scan_word}
use Rattle.text_theory.specs.Forms.{no_zero}
use Rattle.text_theory.specs.Numbers.{byte-within}
use Rattle.import.proofs.CommentLaws.{comment-departs, comment-words, comment-alone}
use Rattle.import.proofs.comments.comment.Goals as goal
use Rattle.import.proofs.comments.comment.Goals.{then-byte-eq32, else-byte-eq32}

pub word-requires : goal.word-requires
unfolding no_zero
word-requires c = refl

pub returns-in_err-p : goal.returns-in_err-p
returns-in_err-p c =
    let departed = comment-departs c.args.text.now c.args.at _ (sym c.in_err-p.ensures) in
    search rules

pub overflow_add-p : goal.overflow_add-p
overflow_add-p c =
    let text = c.args.text.now in
    let space : byte_at text c.in_ok-p.p ≡ 32 = sym c.byte.ensures ∙ c.if-byte-eq32.true in
    omega (arith, byte-within text c.in_ok-p.p (omega (arith, space)))

pub behind_words-end-requires : goal.behind_words-end-requires
behind_words-end-requires c =
    let text = c.args.text.now in
    let space : byte_at text c.in_ok-p.p ≡ 32 = sym c.byte.ensures ∙ c.if-byte-eq32.true in
    omega (arith, byte-within text c.in_ok-p.p (omega (arith, space)))

pub word-requires-2 : goal.word-requires-2
unfolding no_zero
word-requires-2 c = refl

pub returns : goal.returns
returns c =
    let a = c.args in
    let c_read = sym c.in_ok-p.ensures in
    elim c.if-byte-eq32.branch [
      | then-byte-eq32 w ↦
          c.word-2.ensures
          ∙ ap (scan_word a.text.now (bytes "\n")) (w.end-is ∙ w.behind_words-end.ensures)
          ∙ sym (comment-words a.text.now a.at _ c_read (sym c.byte.ensures ∙ w.if-byte-eq32.true))
      | else-byte-eq32 w ↦
          c.word-2.ensures
          ∙ ap (scan_word a.text.now (bytes "\n")) w.end-is
          ∙ sym (comment-alone a.text.now a.at _ c_read (λ e. w.if-byte-eq32.false (c.byte.ensures ∙ e)))
    ]
