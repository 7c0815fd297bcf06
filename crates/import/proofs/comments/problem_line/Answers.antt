-- `import::comments::problem_line` meets its contract: a comment departs, or the line is read behind them.
use Rattle.std.proofs.Common.{rules, refl, sym, ◌∙◌}
use Rattle.definitions.specs.Dimacs.{problem_form}
use Rattle.text_theory.specs.Forms.{no_zero}
use Rattle.import.proofs.CommentLaws.{line-departs, line_reads}
use Rattle.import.proofs.comments.problem_line.Goals as goal

pub returns-in_err-p : goal.returns-in_err-p
returns-in_err-p c =
    let a = c.args in
    let departed = line-departs a.text.now problem_form 0 _ (sym c.in_err-p.ensures) in
    search rules

pub pair_line-requires : goal.pair_line-requires
unfolding no_zero
pair_line-requires c = record { front_value = refl; middle_value = refl; back_value = refl }

pub returns : goal.returns
unfolding problem_form
returns c =
    let a = c.args in
    c.pair_line.ensures ∙ sym (line_reads a.text.now problem_form 0 _ (sym c.in_ok-p.ensures))
