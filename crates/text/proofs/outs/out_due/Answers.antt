-- `out_due` meets its contract: behind the end there is no second byte.
use Rattle.std.proofs.Common.{rules, ◌+◌, ◌≡◌, arith}
use lib.ListN.{get_or-eq_default}
use Rattle.definitions.specs.Form.{byte_at}
use Rattle.text.proofs.outs.out_due.Goals as goal

pub returns-else-at-text : goal.returns-else-at-text
unfolding byte_at
returns-else-at-text c =
    let a = c.args in
    let none : byte_at a.text.now (a.at + 1) ≡ 0 = get_or-eq_default a.text.now 0 {n = a.at + 1} (omega arith) in
    search rules
