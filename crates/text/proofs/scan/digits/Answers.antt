-- `digits` meets its contract: a byte that is no digit ends the number, and so does the last digit that may come.
use Rattle.std.proofs.Common.{◌≡◌, ◌∙◌, ◌-◌, ◌+◌, ◌<◌, true, false, sym, arith, length}
use Rattle.definitions.specs.Lists.{outside}
use Rattle.definitions.specs.Form.{byte_at}
use Rattle.text_theory.specs.Numbers.{byte-within}
use Rattle.lists.specs.Ranges.{below, above, inside}
use Rattle.text.specs.DigitByDigit.{digits-end, no_digit, digits_step, digits-bound, digits-done, digits-room}
use Rattle.text.proofs.scan.digits.Goals as goal
use Rattle.text.proofs.scan.digits.Goals.{in_default-via-then-b-lt48, in_default-via-else-b-lt48+else-b-lt58}

pub loop-later-init : goal.loop-later-init
loop-later-init g c =
    let none : g.row.MORE - 0 ≡ g.row.MORE = omega arith in
    (omega (arith, c.requires.1), omega (arith, c.requires.2), rw none)

pub overflow_mul-x : goal.overflow_mul-x
overflow_mul-x g c =
    let l = c.loop-later in
    omega (arith, digits-room (l._later + 1) 18 l.x (omega (arith, c.requires.0)) l.invariant.0)

pub overflow_add-x : goal.overflow_add-x
overflow_add-x g c =
    let l = c.loop-later in
    omega (arith, digits-room (l._later + 1) 18 l.x (omega (arith, c.requires.0)) l.invariant.0)

pub overflow_add-p : goal.overflow_add-p
overflow_add-p g c =
    let a = c.args in
    let l = c.loop-later in
    let within : l.p < length a.text.now = byte-within a.text.now l.p (omega (arith, c.byte-b.ensures)) in
    omega arith

pub loop-later-preserved : goal.loop-later-preserved
loop-later-preserved g c =
    let a = c.args in
    let b = c.byte-b in
    let l = c.loop-later in
    let within : l.p < length a.text.now = byte-within a.text.now l.p (omega (arith, b.ensures)) in
    let digit : outside 48 57 (byte_at a.text.now l.p) ≡ false =
    rw b.ensures at (inside 48 57 b.result (omega arith) (omega arith)) in
    let left : g.row.MORE - l._later - 1 ≡ g.row.MORE - (l._later + 1) = omega arith in (
      digits-bound (l._later + 1) l.x (b.result - 48) l.invariant.0 (omega arith),
      omega arith,
      l.invariant.2 ∙ (rw left at (rw (← b.ensures) at (digits_step a.text.now l.x l.p (g.row.MORE - l._later) (omega arith) digit))),
    )

pub returns-in-32-clause-scanned : goal.returns-in-32-clause-scanned
returns-in-32-clause-scanned g c =
    let a = c.args in
    let b = c.byte-b in
    let l = c.loop-later in
    sym
    (l.invariant.2
    ∙ digits-end a.text.now l.x l.p (g.row.MORE - l._later)
    (rw b.ensures at (no_digit b.result c.in-32.is)))

pub returns-in-32-clause-below : goal.returns-in-32-clause-below
returns-in-32-clause-below g c =
    let l = c.loop-later in
    digits-room (l._later + 1) (g.row.MORE + 1) l.x (omega arith) l.invariant.0

pub returns-in_default-b-clause-scanned : goal.returns-in_default-b-clause-scanned
returns-in_default-b-clause-scanned g c =
    let a = c.args in
    let b = c.byte-b in
    let l = c.loop-later in
    let other : outside 48 57 b.result ≡ true =
    elim c.in_default.branch [
      | in_default-via-then-b-lt48 w ↦ below 48 57 b.result (omega arith)
      | in_default-via-else-b-lt48+else-b-lt58 w ↦ above 48 57 b.result (omega arith) (omega arith)
    ] in
    sym
    (l.invariant.2
    ∙ digits-end a.text.now l.x l.p (g.row.MORE - l._later) (rw b.ensures at other))

pub returns-in_default-b-clause-below : goal.returns-in_default-b-clause-below
returns-in_default-b-clause-below g c =
    let l = c.loop-later in
    digits-room (l._later + 1) (g.row.MORE + 1) l.x (omega arith) l.invariant.0

pub returns-clause-scanned : goal.returns-clause-scanned
returns-clause-scanned g c =
    let a = c.args in
    let l = c.loop-later in
    sym (l.invariant.2 ∙ digits-done a.text.now l.x l.p (g.row.MORE - l._later) (omega arith))

pub returns-clause-below : goal.returns-clause-below
returns-clause-below g c =
    let l = c.loop-later in
    digits-room (l._later + 1) (g.row.MORE + 1) l.x (omega arith) l.invariant.0
