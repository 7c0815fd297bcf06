-- `reporter::convert::convert` meets its contract: the line in front departs, or the set behind it is taken.
use Prim.Native.Nat.{◌≤◌}
use mathlib.Core.Path.{◌≡◌, refl, sym}
use native.Mathlib.Omega.{arith}
use borrow.Author.Rules.{rules}
use lib.ListN.{length}
use Rattle.definitions.specs.Lists.{overwrite}
use Rattle.definitions.specs.ReportSets.{reports_form, reports_text}
use Rattle.text_theory.specs.Forms.{no_zero}
use Rattle.reporter.proofs.ConvertLaws.{line_refused, set-taken, set-printed}
use Rattle.reporter.proofs.convert.convert.Goals as goal

pub single_line-requires : goal.single_line-requires
unfolding no_zero
single_line-requires c = (refl, refl)

pub slice_bounds-put_reported-start : goal.slice_bounds-put_reported-start
unfolding reports_form
slice_bounds-put_reported-start c =
    let input = c.args.input.now in
    let within : c.in-Ok.p ≤ length input = (set-taken input _ _ (sym c.in-Ok.ensures)).0 in
    search rules

pub slice_bounds-put_reported-count : goal.slice_bounds-put_reported-count
unfolding reports_form
slice_bounds-put_reported-count c =
    (set-taken c.args.input.now _ _ (sym c.in-Ok.ensures)).0

pub returns-in-Err : goal.returns-in-Err
unfolding reports_form
returns-in-Err c =
    let input = c.args.input.now in
    let whole : (c.put_any.result ≡ length (reports_text input)) × (c.put_any.new.output ≡ overwrite (reports_text input) c.args.output.now) =
    line_refused input _ _ _ _ (sym c.in-Err.ensures) (omega arith) c.put_any.ensures in
    record { length = whole.0; bytes = whole.1 }

pub returns-in-Ok : goal.returns-in-Ok
unfolding reports_form
returns-in-Ok c =
    let input = c.args.input.now in
    let whole : (c.put_reported.result ≡ length (reports_text input)) × (c.put_reported.new.output ≡ overwrite (reports_text input) c.args.output.now) =
    set-printed input _ _ _ _ _ (sym c.in-Ok.ensures) c.put_reported.ensures in
    record { length = whole.0; bytes = whole.1 }
