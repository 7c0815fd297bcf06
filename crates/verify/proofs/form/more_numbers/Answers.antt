-- `more_numbers` meets its contract: a turn that finds no space, one that departs, one that reads, and none left.
use Rattle.std.proofs.Common.{◌≡◌, ◌∙◌, ◌-◌, ◌+◌, rules, sym, arith, length}
use Rattle.definitions.specs.Form.{byte_at}
use Rattle.text_theory.specs.Numbers.{byte-within}
use Rattle.verify.proofs.FormLaws.{more-stops, more-departs, more-step, more-ends}
use Rattle.verify.proofs.form.more_numbers.Goals as goal

pub returns-then-byte-ne32 : goal.returns-then-byte-ne32
returns-then-byte-ne32 c =
    let a = c.args in
    let l = c.loop-number in
    sym (l.invariant ∙ more-stops a.text.now l.p (length a.text.now - l._number) (λ e. c.if-byte-ne32.true (c.byte.ensures ∙ e)))

pub overflow_add-p : goal.overflow_add-p
overflow_add-p c =
    let a = c.args in
    let l = c.loop-number in
    let space : byte_at a.text.now l.p ≡ 32 = sym c.byte.ensures ∙ c.if-byte-ne32.false in
    omega (arith, byte-within a.text.now l.p (omega (arith, space)))

pub returns-in_err-p : goal.returns-in_err-p
returns-in_err-p c =
    let a = c.args in
    let l = c.loop-number in
    let space : byte_at a.text.now l.p ≡ 32 = sym c.byte.ensures ∙ c.if-byte-ne32.false in
    let departed =
    l.invariant ∙ more-departs a.text.now l.p (length a.text.now - l._number) _ (omega arith) space (sym c.in_err-p.ensures) in
    search rules

pub loop-number-preserved : goal.loop-number-preserved
loop-number-preserved c =
    let a = c.args in
    let l = c.loop-number in
    let space : byte_at a.text.now l.p ≡ 32 = sym c.byte.ensures ∙ c.if-byte-ne32.false in
    let fewer : length a.text.now - l._number - 1 ≡ length a.text.now - (l._number + 1) = omega arith in
    l.invariant
    ∙ more-step a.text.now l.p (length a.text.now - l._number) _ _ (omega arith) space (sym c.in_ok-p.ensures)
    ∙ rw fewer

pub returns : goal.returns
returns c =
    let a = c.args in
    let l = c.loop-number in
    let none : length a.text.now - l._number ≡ 0 = omega arith in
    sym (l.invariant ∙ more-ends a.text.now l.p (length a.text.now - l._number) none)
