-- The loop's invariant: the whole reading is that of the numbers left, from the offset reached.
use Rattle.std.proofs.Common.{◌≡◌, ◌-◌, length}
use Rattle.definitions.specs.Form.{scan_more}
use Rattle.verify.specs.Offsets.{behind}
use Rattle.verify.proofs.form.more_numbers.Given as goal

abbrev pub invariant-loop-number : goal.invariant-loop-number
invariant-loop-number l =
    behind (scan_more l.text l.at (length l.text)) ≡ behind (scan_more l.text l.p (length l.text - l._number))
