-- `verify` meets its contract: the line in front departs, or the two texts behind it are read.
use Rattle.std.proofs.Common.{◌≡◌, ◌∙◌, ◌≤◌, refl, rules, sym, ap, arith, length}
use Rattle.definitions.specs.Lists.{overwrite}
use Rattle.definitions.specs.Program.{printed}
use Rattle.definitions.specs.Verify.{verify_form, verify_text}
use Rattle.text_theory.specs.Forms.{no_zero}
use Rattle.text.specs.Scans.{pair_gives}
use Rattle.verify.specs.Line.{verify-departed, verify-taken}
use Rattle.verify.proofs.LineLaws.{whole-line}
use Rattle.verify.proofs.line.verify.Goals as goal

pub pair_line-requires : goal.pair_line-requires
unfolding no_zero
pair_line-requires c = record { front_value = refl; middle_value = refl; back_value = refl }

pub slice_bounds-put_both-start : goal.slice_bounds-put_both-start
unfolding verify_form
slice_bounds-put_both-start c =
    let input = c.args.input.now in
    let within : c.in-Ok.p ≤ length input = (verify-taken input _ _ _ (sym c.pair_line.ensures ∙ ap pair_gives c.in-Ok.is)).0 in
    search rules

pub slice_bounds-put_both-count : goal.slice_bounds-put_both-count
unfolding verify_form
slice_bounds-put_both-count c =
    let input = c.args.input.now in
    (verify-taken input _ _ _ (sym c.pair_line.ensures ∙ ap pair_gives c.in-Ok.is)).0

pub returns-in-Ok : goal.returns-in-Ok
unfolding verify_form
returns-in-Ok c =
    let input = c.args.input.now in
    let whole : (c.put_both.result ≡ length (verify_text input)) × (c.put_both.new.output ≡ overwrite (verify_text input) c.args.output.now) =
    whole-line input _ _ _ _ (verify-taken input _ _ _ (sym c.pair_line.ensures ∙ ap pair_gives c.in-Ok.is)).1 (omega arith)
    c.put_both.ensures in
    record { length = whole.0; bytes = whole.1 }

pub returns-in-Err : goal.returns-in-Err
unfolding verify_form printed
returns-in-Err c =
    let input = c.args.input.now in
    let whole : (c.put_any.result ≡ length (verify_text input)) × (c.put_any.new.output ≡ overwrite (verify_text input) c.args.output.now) =
    whole-line input _ _ _ _ (verify-departed input _ (sym c.pair_line.ensures ∙ ap pair_gives c.in-Err.is)) (omega arith)
    c.put_any.ensures in
    record { length = whole.0; bytes = whole.1 }
