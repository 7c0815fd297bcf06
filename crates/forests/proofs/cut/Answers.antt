-- Cut: a refused table, k out of range, a list too short, or all marks.
use Rattle.std.proofs.Common.{rules, ◌≡◌, true}
use Rattle.definitions.specs.Lists.{outside}
use Rattle.definitions.specs.Network.{Accepted}
use Rattle.network.specs.Tables.{OfTable}
use Rattle.lists.specs.Ranges.{inside, below, above}
use Rattle.forests.proofs.AnswerLaws.{cut-refused, cut-count, cut_short, cut-done}
use Rattle.forests.proofs.cut.Goals as goal
use Rattle.forests.proofs.cut.Goals.{then-k-lt1-via-then-k-lt1, then-k-lt1-via-else-k-lt1+then-k-gt-ROUTES}

pub returns-in_err-network : goal.returns-in_err-network
returns-in_err-network c =
    let t = c.args.table in
    let refused = cut-refused t.n t.lows.now t.highs.now t.states.now c.args.k c.args.marks.now
    c.in_err-network.field-0.0 c.in_err-network.ensures.answer in
    let answer = refused.0 in
    record { answer = search rules; marks = refused.1 }

pub returns-then-k-lt1 : goal.returns-then-k-lt1
returns-then-k-lt1 c =
    let t = c.args.table in
    let network = c.in_ok-network.network in
    let good : OfTable Accepted t = rw c.in_ok-network.ensures.same at network.accepted in
    let k = c.args.k in
    let out : outside 1 32 k ≡ true =
    elim c.then-k-lt1.branch [
      | then-k-lt1-via-then-k-lt1 w ↦ below 1 32 k w.if-k-lt1.true
      | then-k-lt1-via-else-k-lt1+then-k-gt-ROUTES w ↦ above 1 32 k w.if-k-lt1.false w.if-k-gt-ROUTES.true
    ] in
    let both = cut-count t.n t.lows.now t.highs.now t.states.now k c.args.marks.now good out in
    record { answer = both.0; marks = both.1 }

pub returns-then-marks-table : goal.returns-then-marks-table
returns-then-marks-table c =
    let t = c.args.table in
    let network = c.in_ok-network.network in
    let good : OfTable Accepted t = rw c.in_ok-network.ensures.same at network.accepted in
    let k = c.args.k in
    let both = cut_short t.n t.lows.now t.highs.now t.states.now k c.args.marks.now good
    (inside 1 32 k c.if-k-lt1.false c.if-k-gt-ROUTES.false) c.if-marks-table.true in
    record { answer = both.0; marks = both.1 }

pub returns : goal.returns
returns c =
    let t = c.args.table in
    let network = c.in_ok-network.network in
    let same : network.table ≡ t = c.in_ok-network.ensures.same in
    let good : OfTable Accepted t = rw same at network.accepted in
    let k = c.args.k in
    let made = c.cut_accepted in
    let both = cut-done t.n t.lows.now t.highs.now t.states.now k c.args.marks.now made.result good
    (inside 1 32 k c.if-k-lt1.false c.if-k-gt-ROUTES.false) c.if-marks-table.false
    (rw same at made.ensures.value) (rw same at made.ensures.marks_left) in
    record { answer = both.0; marks = both.1 }
