-- `import::comments::behind_words` meets its contract: a line end is found, or the text has none.
use Prim.Native.Nat.{suc, ◌+◌, ◌-◌}
use mathlib.Core.Path.{◌≡◌, sym, ◌∙◌, ap}
use native.Mathlib.Omega.{arith}
use lib.ListN.{length}
use Rattle.definitions.specs.Form.{byte_at}
use Rattle.definitions.specs.Dimacs.{behind_words}
use Rattle.import.proofs.CommentLaws.{words-stop, words-end, words_step}
use Rattle.import.proofs.comments.behind_words.Goals as goal

pub returns-then-text-p-eq10 : goal.returns-then-text-p-eq10
unfolding byte_at
returns-then-text-p-eq10 c =
    let text = c.args.text.now in
    sym (c.loop-p.invariant ∙ words-stop text c.loop-p.p (length text - c.loop-p.p) c.if-text-p-eq10.true)

pub loop-p-preserved : goal.loop-p-preserved
unfolding byte_at
loop-p-preserved c =
    let text = c.args.text.now in
    let p = c.loop-p.p in
    let more : length text - p ≡ suc (length text - (p + 1)) = omega arith in
    c.loop-p.invariant ∙ ap (behind_words text p) more ∙ words_step text p (length text - (p + 1)) c.if-text-p-eq10.false

pub returns : goal.returns
returns c =
    let text = c.args.text.now in
    let end : c.loop-p.p ≡ length text = omega arith in
    sym (c.loop-p.invariant ∙ words-end text c.loop-p.p (length text - c.loop-p.p) (omega arith) ∙ end)
