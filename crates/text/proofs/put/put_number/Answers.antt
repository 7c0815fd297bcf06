-- `text::put::put_number` meets its contract: from the right, each digit is the last of the tens that are left, and the first is all of
-- them.
use Rattle.std.proofs.Common.{ℕ, ◌+◌, ◌-◌, ◌/◌, ◌<◌, ◌≤◌, ◌≡◌, ◌∙◌, Bool, true, false, ltb, length, refl, sym, arith, ltb-true, ltb-false}
use Rattle.std.proofs.Math.ListN.{length-set}
use Rattle.definitions.specs.Form.{decimal}
use Rattle.text_theory.specs.Decimal.{length-decimal-one, length-decimal-tens, decimal-below, decimal-not-empty}
use Rattle.text.specs.Put.{number-store, digit-store}
use Rattle.text.proofs.put.put_number.Goals as goal

-- A number of more digits than one has tens.
has-tens : (x : ℕ) → 1 < length (decimal x) → 10 ≤ x
has-tens x h = go (ltb x 10) refl
  where
    go : (b : Bool) → ltb x 10 ≡ b → 10 ≤ x
    go true t =
        let one = length-decimal-one x (ltb-true x 10 t) in
        absurd (omega (arith, one, h))
    go false t = ltb-false x 10 t

pub loop-p-preserved : goal.loop-p-preserved
loop-p-preserved c =
    let l = c.loop-p in
    let big : 10 ≤ l.tens = has-tens l.tens (omega (arith, l.invariant.1, c.loop-p-test.true)) in
    let step : l.p - 1 ≡ c.args.at + length (decimal (l.tens / 10)) = omega (arith, l.invariant.1, length-decimal-tens l.tens big) in
    (length-set l.buffer _ _ ∙ l.invariant.0, step, rw step (l.invariant.2 ∙ number-store l.buffer c.args.at l.tens big))

pub overflow_cast-buffer-2 : goal.overflow_cast-buffer-2
overflow_cast-buffer-2 c =
    let l = c.loop-p in
    omega (arith, decimal-below 0 l.tens (omega (arith, l.invariant.1)))

pub overflow_add-buffer-2 : goal.overflow_add-buffer-2
overflow_add-buffer-2 c =
    let l = c.loop-p in
    omega (arith, decimal-below 0 l.tens (omega (arith, l.invariant.1)))

pub bounds-buffer-at : goal.bounds-buffer-at
bounds-buffer-at c = omega (arith, c.loop-p.invariant.0, c.requires, decimal-not-empty c.args.x)

pub returns : goal.returns
returns c =
    let l = c.loop-p in
    let last : l.tens < 10 = decimal-below 0 l.tens (omega (arith, l.invariant.1)) in
    record {
      bytes = sym (l.invariant.2 ∙ digit-store l.buffer c.args.at l.tens last);
      ends = omega (arith, c.width.ensures);
      same = length-set l.buffer _ _ ∙ l.invariant.0;
    }
