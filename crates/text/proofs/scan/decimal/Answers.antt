-- `decimal` meets its contract: each arm is one range of the first byte.
use Rattle.std.proofs.Common.{◌∙◌, ◌+◌, refl, sym, arith}
use Rattle.lists.specs.Ranges.{below, above}
use Rattle.text_theory.specs.Numbers.{byte-within}
use Rattle.text.specs.DigitByDigit.{decimal-departs, decimal-digits, digits-room}
use Rattle.text.proofs.scan.decimal.Goals as goal

pub overflow_add-result : goal.overflow_add-result
overflow_add-result g c =
    let a = c.args in
    omega (arith, byte-within a.text.now a.at (omega (arith, c.byte-b.ensures)))

pub overflow_add-at : goal.overflow_add-at
overflow_add-at g c =
    let a = c.args in
    omega (arith, byte-within a.text.now a.at (omega (arith, c.byte-b.ensures)))

pub digits-requires : goal.digits-requires
digits-requires g c =
    let a = c.args in
    (c.requires, omega arith, omega (arith, byte-within a.text.now a.at (omega (arith, c.byte-b.ensures))))

pub returns-in-48-clause-below : goal.returns-in-48-clause-below
returns-in-48-clause-below g c = digits-room 0 (g.row.MORE + 1) 0 (omega arith) (omega arith)

pub returns-in-49-to-57-clause-scanned : goal.returns-in-49-to-57-clause-scanned
returns-in-49-to-57-clause-scanned g c =
    let a = c.args in
    let e = c.byte-b.ensures in
    c.digits.ensures.scanned
    ∙ (rw e refl)
    ∙ sym (decimal-digits a.text.now g.row.MORE a.at (omega (arith, e)) (omega (arith, e)))

pub returns-in_default-clause-scanned : goal.returns-in_default-clause-scanned
returns-in_default-clause-scanned g c =
    let a = c.args in
    let b = c.byte-b in
    sym
    (decimal-departs a.text.now g.row.MORE a.at (λ e. omega (arith, b.ensures))
    (rw b.ensures at (below 49 57 b.result (omega arith))))

pub returns-in_default-2-clause-scanned : goal.returns-in_default-2-clause-scanned
returns-in_default-2-clause-scanned g c =
    let a = c.args in
    let b = c.byte-b in
    sym
    (decimal-departs a.text.now g.row.MORE a.at (λ e. omega (arith, b.ensures))
    (rw b.ensures at (above 49 57 b.result (omega arith) (omega arith))))
