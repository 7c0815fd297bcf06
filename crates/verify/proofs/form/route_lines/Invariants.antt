-- The loop's invariant: the whole count is that of the lines left, behind those counted.
use Rattle.std.proofs.Common.{◌≡◌, ◌-◌, length}
use Rattle.verify.specs.Offsets.{count_lines}
use Rattle.verify.proofs.form.route_lines.Given as goal

abbrev pub invariant-loop-count : goal.invariant-loop-count
invariant-loop-count l =
    count_lines l.text 0 l.at (length l.text) ≡ count_lines l.text l.count l.p (length l.text - l.count)
