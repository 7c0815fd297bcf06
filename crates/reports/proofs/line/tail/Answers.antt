-- `reports::line::tail` meets its contract: a word departs, those seen are bad, or it is the rest of a good line.
use Prim.Native.Nat.{max}
use Rattle.std.proofs.Common.{refl, ◌∙◌, ap, arith}
use Rattle.text_theory.specs.Forms.{no_zero}
use Rattle.text_theory.specs.ReportParts.{name-departs, end-departs}
use Rattle.text.specs.Scans.{word_gives}
use Rattle.reports.proofs.LineLaws.{read-so, departed-so, departs-bad, seen-bad, line-told}
use Rattle.reports.proofs.line.tail.Goals as goal

pub word-requires : goal.word-requires
unfolding no_zero
word-requires c = refl

pub word-requires-2 : goal.word-requires-2
unfolding no_zero
word-requires-2 c = refl

pub returns-in_err-start : goal.returns-in_err-start
returns-in_err-start c =
    let text = c.args.text.now in
    let departed = departed-so word_gives c.word.result c.word.ensures c.in_err-start.ensures.value in
    rw c.from_residual.ensures
    (λ p u front number. departs-bad text p (name-departs text p _ _ front _ _ number _ departed.1))

pub returns-in_err-seen : goal.returns-in_err-seen
returns-in_err-seen c =
    let text = c.args.text.now in
    let name = read-so word_gives c.word.result c.word.ensures _ c.in_ok-start.ensures.value in
    rw c.from_residual-in_err-seen.ensures
    (λ p u front number. seen-bad text p front number name c.in_err-seen.ensures)

pub returns-in_err-next : goal.returns-in_err-next
returns-in_err-next c =
    let text = c.args.text.now in
    let name = read-so word_gives c.word.result c.word.ensures _ c.in_ok-start.ensures.value in
    let seen = c.in_ok-seen.ensures in
    let departed = departed-so word_gives c.word-2.result c.word-2.ensures c.in_err-next.ensures.value in
    rw c.from_residual-in_err-next.ensures
    (λ p u front number. departs-bad text p (end-departs text p _ _ front _ _ number _ name _ _ seen.scanned _ departed.1))

pub returns : goal.returns
returns c p u front number =
    let name = read-so word_gives c.word.result c.word.ensures _ c.in_ok-start.ensures.value in
    let end = read-so word_gives c.word-2.result c.word-2.ensures _ c.in_ok-next.ensures.value in
    line-told c.args.text.now p front number name c.requires (omega arith) c.in_ok-seen.ensures end
    (c.max.ensures ∙ ap (max _) c.unwrap_or.ensures)
