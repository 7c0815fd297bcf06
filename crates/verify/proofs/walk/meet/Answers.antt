-- `meet` meets its contract: the bit that was read, and the word with it set.
use Rattle.std.proofs.Common.{ℕ, ◌/◌, ap, bit_or, get_or}
use Rattle.std.proofs.Math.ListN.{set}
use Rattle.lists.specs.Bitmap.{bit_of, marked, mark, one_bit}
use Rattle.verify.proofs.walk.meet.Goals as goal

pub returns-clause-fresh : goal.returns-clause-fresh
unfolding marked bit_of
returns-clause-fresh c = rw c.from-number.ensures

pub returns-clause-marks : goal.returns-clause-marks
unfolding mark
returns-clause-marks c =
    let a = c.args in
    rw c.from-number.ensures
    (ap (λ (x : ℕ). set a.marks.now (a.relay.0 / 64) (bit_or (get_or a.marks.now (a.relay.0 / 64) 0) x)) (one_bit a.relay.0))
