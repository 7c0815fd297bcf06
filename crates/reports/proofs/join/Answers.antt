-- `reports::join` meets its contract: the states are put, the links merged, and the size is refused or not.
use Rattle.std.proofs.Common.{Err, Ok, rules}
use Rattle.reports.proofs.SetLaws.{set-merges, set-many, set-joined}
use Rattle.reports.proofs.join.Goals as goal

pub merge-requires : goal.merge-requires
merge-requires c =
    let pre = c.requires in
    set-merges _ _ _ pre.0 pre.1 pre.2

pub returns-in_err-links : goal.returns-in_err-links
returns-in_err-links c =
    let pre = c.requires in
    let table = set-many _ _ _ pre.0 pre.1 pre.2 _ _ _ _ _ _ _ c.put_states.ensures c.in_err-links.ensures in
    search rules

pub returns-in_err-size_check : goal.returns-in_err-size_check
returns-in_err-size_check c =
    let pre = c.requires in
    let table =
    set-joined _ _ _ pre.0 pre.1 pre.2 _ _ _ _ _ _ _ c.put_states.ensures c.in_ok-links.ensures (Err _) c.in_err-size_check.ensures in
    search rules

pub returns : goal.returns
returns c =
    let pre = c.requires in
    set-joined _ _ _ pre.0 pre.1 pre.2 _ _ _ _ _ _ _ c.put_states.ensures c.in_ok-links.ensures (Ok _) c.in_ok-size_check.ensures
