-- `reports::merge::put_at` meets its contract: past the end a store changes nothing.
use mathlib.Core.Path.{sym}
use native.Mathlib.Omega.{arith}
use lib.Seq.{set_out}
use Rattle.reports.proofs.merge.put_at.Goals as goal

pub returns-else-i-list : goal.returns-else-i-list
returns-else-i-list c = sym (set_out _ _ _ (omega arith))
