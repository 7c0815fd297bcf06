-- `import::comments::comments` meets its contract: another line ends the comment lines, or one of them departs.
use Rattle.std.proofs.Common.{rules, sym, ◌∙◌, arith}
use Rattle.text_theory.specs.Numbers.{byte-within}
use Rattle.import.proofs.CommentLaws.{comments-begin, comments-stop, comments-departs, comments-step, comment-forward}
use Rattle.import.proofs.comments.comments.Goals as goal

pub loop-p-init : goal.loop-p-init
loop-p-init c = comments-begin _ _

pub returns-in_err-p : goal.returns-in_err-p
returns-in_err-p c =
    let departed = comments-departs _ _ _ c.loop-p.invariant (sym c.byte.ensures ∙ c.loop-p-test.true) _ (sym c.in_err-p.ensures) in
    search rules

pub loop-p-smaller : goal.loop-p-smaller
loop-p-smaller c =
    let text = c.args.text.now in
    let p = c.loop-p.p in
    omega (
      arith,
      comment-forward text p _ (sym c.byte.ensures ∙ c.loop-p-test.true) (sym c.in_ok-p.ensures),
      byte-within text p (omega (arith, c.byte.ensures)),
    )

pub loop-p-preserved : goal.loop-p-preserved
loop-p-preserved c =
    comments-step _ _ _ c.loop-p.invariant (sym c.byte.ensures ∙ c.loop-p-test.true) _ (sym c.in_ok-p.ensures)

pub returns : goal.returns
returns c = sym (comments-stop _ _ _ c.loop-p.invariant (λ e. c.loop-p-test.false (c.byte.ensures ∙ e)))
