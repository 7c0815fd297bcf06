-- The loop's invariant: the whole scan is that of the digits that may yet come; the number has as many digits as were read.
use Rattle.std.proofs.Common.{◌≡◌, ◌+◌, ◌-◌, ◌^◌, ◌≤◌, ◌<◌, length}
use Rattle.definitions.specs.Form.{scan_digits}
use Rattle.text.proofs.scan.digits.Given as goal

abbrev pub invariant-loop-later : goal.invariant-loop-later
invariant-loop-later g l =
    (l.x < 10 ^ (l._later + 1)) × (l.p ≤ length l.text) × (scan_digits l.text l.first l.at g.row.MORE ≡ scan_digits l.text l.x l.p (g.row.MORE - l._later))
