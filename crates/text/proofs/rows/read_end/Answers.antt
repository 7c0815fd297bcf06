-- `read_end` meets its contract: the end line departs, something is behind it, or nothing is.
use Rattle.std.proofs.Common.{Err, rules, ◌∙◌}
use Rattle.text.specs.DueForms.{pair-departs-end, pair-reads-end}
use Rattle.text.specs.Read.{end-departs, end_more, end-done}
use Rattle.text.specs.Rows.{EndRead}
use Rattle.text.proofs.rows.read_end.Goals as goal

pub returns-in_err-p : goal.returns-in_err-p
returns-in_err-p c =
    let a = c.args in
    let departs = c.in_err-p.ensures in
    let end : EndRead a.text.now a.at (Err c.in_err-p.field-0.0) =
    record {
      follows = λ n lows highs states.
          end-departs a.text.now n lows highs states a.at _ (pair-departs-end _ _ departs.1) ∙ rw departs.2;
    } in
    search rules

pub returns-then-p-text : goal.returns-then-p-text
returns-then-p-text c =
    let a = c.args in
    let given = pair-reads-end _ _ _ _ c.in_ok-p.ensures in
    record {
      follows = λ n lows highs states.
          end_more a.text.now n lows highs states a.at _ given.0 given.1 c.if-p-text.true;
    }

pub returns : goal.returns
returns c =
    let a = c.args in
    let given = pair-reads-end _ _ _ _ c.in_ok-p.ensures in
    record {
      follows = λ n lows highs states.
          end-done a.text.now n lows highs states a.at _ given.0 given.1 c.if-p-text.false;
    }
